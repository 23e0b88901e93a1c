pub mod Made
pub mod Taken
pub mod Puts
pub mod Held
