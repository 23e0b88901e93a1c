pub mod Making
pub mod Sharing
pub mod Doing
pub mod Runs
pub mod Writes
pub mod Output
pub mod ThreadStands
