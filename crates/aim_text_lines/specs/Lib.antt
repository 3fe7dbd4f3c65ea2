pub mod Forms
pub mod Reading
pub mod Steps
pub mod Ranges
