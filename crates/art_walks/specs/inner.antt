-- Words of private contracts.
pub mod Names
pub mod Skeletons
pub mod Fillings
pub mod Slots
