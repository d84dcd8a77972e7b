pub mod Keys
pub mod Laws
pub mod Lists
pub mod Mappings
pub mod Numbers
pub mod ZeroEnded
pub mod lemmas
