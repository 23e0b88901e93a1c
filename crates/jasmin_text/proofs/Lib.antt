pub mod Conditions
pub mod WordBytes
pub mod Integers
pub mod MemberWords
pub mod Tables
