pub mod BankView
pub mod Turns
