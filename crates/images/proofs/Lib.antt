pub mod Chunks
pub mod Renewed
pub mod Words
