pub mod Table
pub mod Places
pub mod Operands
pub mod Heads
pub mod Listing
pub mod Bodies
pub mod Reading
pub mod File
