pub mod Back
pub mod Numbers
pub mod Splits
