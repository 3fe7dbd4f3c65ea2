pub mod Crosses
pub mod SpanSteps
mod RowLemmas
mod GreenLemmas
mod BeforeLemmas
mod BlockedLemmas
mod LitLemmas
pub mod KeepingLemmas
mod NewRows
