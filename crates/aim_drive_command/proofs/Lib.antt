pub mod Stations
pub mod Ways
pub mod Table
pub mod Openings
pub mod Bodies
pub mod Scripts
pub mod Drawing
mod Printed
pub mod Spelling
pub mod OwnTiles
pub mod RunLemmas
pub mod OrderLemmas
mod ShownLemmas
pub mod Lists
pub mod Courses
pub mod Nexts
pub mod Journals
pub mod Texts
pub mod Races
pub mod AtEnd
pub mod Rows
