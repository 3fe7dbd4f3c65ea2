pub mod Texts
pub mod Windows
pub mod Actors
pub mod Lines
pub mod Same
pub mod Writing
