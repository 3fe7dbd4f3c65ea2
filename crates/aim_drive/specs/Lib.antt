pub use Rattle.aim_agents.specs.Rounds
pub use Rattle.aim_agents.specs.Runs
pub use Rattle.aim_agents.specs.Orders
pub use Rattle.aim_agents.specs.Places
pub mod Headline
pub mod Making
pub mod Closing
