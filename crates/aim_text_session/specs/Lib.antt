pub mod Sessions
pub mod Headings
pub mod Numbers
pub mod Words
