pub mod HandlerRows
pub mod LeadingOut
pub mod Stacks
pub mod Popped
pub mod Sequences
pub mod Unwound
