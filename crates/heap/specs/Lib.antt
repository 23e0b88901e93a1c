pub mod Objects
pub mod Contents
pub mod Instances
pub mod Monitors
