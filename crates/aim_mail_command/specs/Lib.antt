pub mod Runs
pub mod Calling
pub mod Commands
pub mod Endings
