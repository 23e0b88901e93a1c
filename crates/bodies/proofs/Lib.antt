pub mod Asking
pub mod Counting
pub mod HeldValues
pub mod ThreadSteps
