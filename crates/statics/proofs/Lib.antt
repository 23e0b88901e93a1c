mod Given
pub mod StaticPlaces
