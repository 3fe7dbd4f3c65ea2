pub mod Looks
pub mod Kept
pub mod Calls
pub mod Listed
pub mod Distances
