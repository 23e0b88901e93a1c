pub mod Gives
pub mod Parts
pub mod Written
