pub mod Drawing
pub mod Following
pub mod Tasks
pub mod Working
pub mod ThreadWork
pub mod MergedJournals
pub mod AllWork
