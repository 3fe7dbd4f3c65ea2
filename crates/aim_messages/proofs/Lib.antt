pub mod Words
pub mod TextExamples
pub mod SameLemmas
pub mod ActorLaws
