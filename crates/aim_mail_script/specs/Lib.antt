pub mod Said
pub mod Kinds
pub mod Verdicts
pub mod Fits
pub mod Scripts
pub mod Short
pub mod Replayed
pub mod Stages
