pub mod Lists
pub mod Seats
pub mod Closings
pub mod Fitting
pub mod Endings
pub mod Headlines
pub mod Entering
pub mod Rows
