pub mod Begun
pub mod Occupied
pub mod Reserved
pub mod Tiles
pub mod Traces
