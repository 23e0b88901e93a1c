pub mod Reading
pub mod Judged
pub mod NextEvent
pub mod OpenClass
pub mod Verdicts
pub mod Judging
