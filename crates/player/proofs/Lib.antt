pub mod Boards
pub mod Lines
pub mod Longer
pub mod Steady
