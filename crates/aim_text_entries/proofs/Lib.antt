pub mod EntryReadingExamples
pub mod TableLaws
pub mod EntryStepLaws
pub mod EntryAgain
pub mod EntrySpelled
pub mod OneLine
pub mod KindLaws
