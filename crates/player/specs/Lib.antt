pub mod Played
pub mod Board
