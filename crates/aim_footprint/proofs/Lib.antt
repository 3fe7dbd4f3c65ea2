pub mod UnderLemmas
pub mod Visiting
pub mod WayLemmas
pub mod Reached
pub mod Unions
pub mod Footprints
pub mod FieldLemmas
pub mod FastLemmas
pub mod GoodLemmas
mod LeftRows
