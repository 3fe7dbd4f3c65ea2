pub mod Crosses
pub mod Order
pub mod Edits
pub mod Masks
pub mod Moved
