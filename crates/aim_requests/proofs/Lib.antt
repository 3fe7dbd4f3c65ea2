pub mod Crosses
pub use Rattle.aim_footprint.proofs.FieldLemmas
pub use Rattle.aim_footprint.proofs.GoodLemmas
pub mod BorderLemmas
pub mod CountLemmas
pub mod RowLemmas
pub mod MoveLemmas
pub mod WindowLemmas
pub mod StepLemmas
pub mod SpanLemmas
pub mod RequestLemmas
pub mod GroundLemmas
pub mod ShiftLemmas
pub mod ShapeLemmas
mod MemoLemmas
mod WrittenLemmas
mod BoundLemmas
