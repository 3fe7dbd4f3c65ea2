pub mod Faults
pub mod Tables
pub mod Forms
pub mod Reading
pub mod Steps
pub mod Ranges
