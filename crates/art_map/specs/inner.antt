-- Words of private contracts.
pub mod Asks
pub mod Joins
pub mod Pushes
