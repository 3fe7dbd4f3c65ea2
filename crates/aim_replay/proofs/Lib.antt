pub mod ChartLemmas
pub mod StageLemmas
