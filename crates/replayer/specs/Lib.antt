pub mod Turns
pub mod OrderedRun
pub mod Logged
pub mod Going
pub mod AllGoing
pub mod Turning
