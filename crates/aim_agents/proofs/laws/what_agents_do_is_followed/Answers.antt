use Rattle.aim_agents.proofs.Followed.{followed, stopped}
use Rattle.aim_agents.proofs.laws.what_agents_do_is_followed.Goals as goal

pub returns : goal.returns
returns c = record { calm = followed; full = stopped }
