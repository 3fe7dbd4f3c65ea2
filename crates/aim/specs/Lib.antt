pub mod Help
pub mod Commands
pub mod Runs
