pub mod Post
pub mod Asks
pub mod Calls
pub mod Mail
pub mod Slips
