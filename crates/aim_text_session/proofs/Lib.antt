pub mod HeadingLemmas
pub mod BodyLemmas
pub mod NumberLaws
