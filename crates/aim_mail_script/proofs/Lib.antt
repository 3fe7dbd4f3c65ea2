pub mod Kinding
pub mod Staging
pub mod Replaying
pub mod Telling
pub mod Rows
