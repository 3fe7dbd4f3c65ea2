pub mod Words
pub mod Cells
pub mod Pages
pub mod Sheets
pub mod Searches
