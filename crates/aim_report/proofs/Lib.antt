pub mod Lines
pub mod StayLemmas
pub mod Telling
pub mod TileLines
pub mod Rows
pub mod LineLemmas
