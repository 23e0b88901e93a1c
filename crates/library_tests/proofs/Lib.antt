pub mod Asked
pub mod OneRecord
