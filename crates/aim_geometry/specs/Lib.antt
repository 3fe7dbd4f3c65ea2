pub mod Bounded
pub mod Cells
pub mod Ground
pub mod Sites
pub mod Stations
pub mod Rects
