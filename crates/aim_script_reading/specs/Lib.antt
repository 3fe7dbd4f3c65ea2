pub mod Rules
pub mod Verdicts
pub mod Short
pub mod First
pub mod Taking
pub mod Reads
pub mod Commands
