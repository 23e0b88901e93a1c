pub mod Laying
pub mod Lists
pub mod RowsInBlocks
pub mod Texts
