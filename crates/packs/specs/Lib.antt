pub mod PackLaws
pub mod Packs
