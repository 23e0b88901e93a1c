pub mod Blocks
pub mod Laid
pub mod Rows
pub mod WordList
