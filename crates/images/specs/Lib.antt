pub mod Blocks
pub mod Damage
pub mod Images
pub mod ZeroBlocks
