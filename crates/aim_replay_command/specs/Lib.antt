pub mod Texts
pub mod Replays
pub mod Written
pub mod Sessions
pub mod Spelling
