pub mod ClaimedLends
pub mod Claims
pub mod Fits
pub mod Growths
pub mod NodesLends
pub mod Stepping
