pub mod Reading
pub mod Answered
pub mod Held
pub mod Commands
