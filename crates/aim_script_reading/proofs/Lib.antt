pub mod Behind
pub mod Placing
pub mod Between
pub mod First
pub mod EndingLemmas
pub mod Deciding
pub mod Undecided
