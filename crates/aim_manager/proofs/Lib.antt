pub mod Callers
pub mod Sheets
pub mod Crosses
pub mod Passes
pub mod Made
mod Opens
mod Served
