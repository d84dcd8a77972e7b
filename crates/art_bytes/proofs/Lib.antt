pub mod Examples
pub mod Order
pub mod Conflicts
pub mod Walks
pub mod Terms
pub mod Common
