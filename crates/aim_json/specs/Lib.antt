pub mod Members
pub mod Lines
pub mod Entries
pub mod Objects
pub mod Same
pub mod Spelling
pub mod Reading
