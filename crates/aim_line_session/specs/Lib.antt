pub mod Servers
pub mod Sessions
pub mod Charted
pub mod Idle
