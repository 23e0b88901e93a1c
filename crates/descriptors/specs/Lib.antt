pub mod ClassName
pub mod Letters
pub mod Signature
pub mod Same
pub mod Spelling
pub mod Reading
pub mod Messages
