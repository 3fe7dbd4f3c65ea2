use Rattle.std.proofs.Common.{◌∙◌, arith}
use Rattle.aim_shards.proofs.Steps.{enters_as}
use Rattle.aim_shards.proofs.Walks.{in_hand_last, announced, decides_new, gives_after}
use Rattle.aim_shards.proofs.turns.draw.Goals as goal

pub announce-requires-clause-held : goal.announce-requires-clause-held
announce-requires-clause-held c = in_hand_last c.requires.works.1

pub fetch_add-ticket-requires : goal.fetch_add-ticket-requires
fetch_add-ticket-requires c =
    let a = c.announce.ensures.plan in
    (c.announce.ensures.seat.0 ∙ c.requires.desk.0, omega (arith, c.requires.desk.1), enters_as _ _ _ _ _ c.args.last _ c.args.number _ _ a.new _ _ c.requires.calls (decides_new a c.requires.decides) (announced c.requires.works.1 a))

pub returns-clause-gives : goal.returns-clause-gives
returns-clause-gives c qs w = gives_after c.args.set.now w c.announce.ensures.plan c.fetch_add-ticket.ensures.2 c.requires.decides c.requires.moves
