pub mod BankState
pub mod Statics
