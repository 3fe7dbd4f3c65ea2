pub mod Fields
pub mod Windows
pub mod Ways
pub mod Reaches
pub mod Fills
pub mod Visits
