pub mod Fault
pub mod Escapes
pub mod Lexing
pub mod Spelling
pub mod Integers
pub mod Names
pub mod Quoting
