pub mod Charted
pub mod Whole
pub mod Stages
