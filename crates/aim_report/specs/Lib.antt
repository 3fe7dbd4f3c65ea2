pub mod Stays
pub mod Reports
pub mod Told
pub mod Apart
