use Rattle.std.proofs.Common.{◌∙◌}
use Rattle.aim_agents.proofs.DriveLaws.{pass_of}
use Rattle.aim_agents.proofs.driving.give.Goals as goal

pub operate-requires-clause-own : goal.operate-requires-clause-own
operate-requires-clause-own g c = pass_of c.args.manager.now c.args.operator.now c.rounds.new.operator c.rounds.ensures.same c.requires.operator

pub operate-requires-clause-number : goal.operate-requires-clause-number
operate-requires-clause-number g c = c.rounds.ensures.same.number ∙ c.requires.number

pub returns : goal.returns
returns g c = record { mid = c.rounds.new.operator; rounds = c.rounds.ensures; same = c.operate.ensures.same; served = c.operate.ensures.served }
