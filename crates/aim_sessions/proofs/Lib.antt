pub mod SessionLaws
pub mod LookLaws
mod Looking
pub mod Lists
pub mod CallLaws
pub mod DistanceLaws
