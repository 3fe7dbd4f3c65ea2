pub mod Forms
pub mod Entries
pub mod EntrySteps
pub mod Ranges
