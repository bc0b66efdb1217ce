pub mod HopLaws
pub mod Hops
