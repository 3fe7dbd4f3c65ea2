pub mod Plans
pub mod Claimed
pub mod Windows
pub mod Changes
pub mod Stored
