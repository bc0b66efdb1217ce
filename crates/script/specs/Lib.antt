pub mod Fields
pub mod Lines
pub mod OutputLines
pub mod Written
