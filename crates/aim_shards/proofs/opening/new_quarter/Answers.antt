use Rattle.aim_shards.proofs.Seats.{new_suits}
use Rattle.aim_shards.proofs.opening.new_quarter.Goals as goal

pub returns : goal.returns
returns c q sets lt w = new_suits c.args.n c.args.horizon c.args.room q sets _ lt w c.in_ok-with_capacity.ensures.items c.in_ok-with_capacity.ensures.capacity c.in_ok-new.ensures
