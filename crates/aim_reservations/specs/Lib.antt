pub mod SpanSteps
pub mod Rows
pub mod Keeping
pub mod Blocking
