pub mod Texts
pub mod Tiles
pub mod Values
pub mod Refusals
pub mod Commands
pub mod Endings
