pub mod Empty
pub mod Keeping
pub mod Marks
