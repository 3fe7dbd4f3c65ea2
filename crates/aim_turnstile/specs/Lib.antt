pub mod History
pub mod Models
pub mod Turned
