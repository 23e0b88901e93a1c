pub mod Keywords
pub mod CanonicalWords
pub mod Canonical
pub mod Marks
