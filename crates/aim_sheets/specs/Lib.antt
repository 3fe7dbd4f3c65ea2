pub mod Spans
pub mod Sheets
pub mod Nodes
pub mod Pools
pub mod Moves
