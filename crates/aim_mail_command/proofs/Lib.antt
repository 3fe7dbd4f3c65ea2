pub mod Places
pub mod Events
pub mod Steps
pub mod Seats
pub mod Totals
pub mod Journals
pub mod Staffing
pub mod Crosses
pub mod Reports
mod ShownLemmas
pub mod Rows
