pub use Rattle.aim_requests.specs.Requests
pub use Rattle.aim_book.specs.Sheets
pub use Rattle.aim_book.specs.declared.book.Full
pub mod Seen
pub mod Asking
