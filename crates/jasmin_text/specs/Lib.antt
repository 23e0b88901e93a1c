pub mod BaseWords
pub mod Lines
pub mod Tables
pub mod Spellable
pub mod Forms
pub mod MemberWords
pub mod Grammar
