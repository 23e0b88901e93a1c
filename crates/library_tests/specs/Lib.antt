pub mod AnyBodies
pub mod InHand
