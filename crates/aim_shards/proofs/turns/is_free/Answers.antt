use Rattle.std.proofs.Common.{◌∙◌}
use Rattle.aim_shards.proofs.Walks.{taken_out, as_it_was, put_same, tiles_in_hand, clear_in_hand}
use Rattle.aim_shards.proofs.turns.is_free.Goals as goal

pub look-quarter-requires : goal.look-quarter-requires
look-quarter-requires c = tiles_in_hand c.args.sheet.now.spans (λ h. c.requires.tiles h) c.requires.held c.take-taken.ensures.taken

pub put-requires-clause-held : goal.put-requires-clause-held
put-requires-clause-held c = taken_out c.take-taken.ensures.taken

pub returns-clause-seat : goal.returns-clause-seat
returns-clause-seat c =
    (c.put.ensures.seat.0 ∙ c.take-taken.ensures.seat.0, c.put.ensures.seat.1 ∙ c.take-taken.ensures.seat.1, as_it_was c.take-taken.ensures.taken (put_same c.look-quarter.ensures.same c.put.ensures.given))

pub returns-clause-free : goal.returns-clause-free
returns-clause-free c h = clear_in_hand c.args.sheet.now.spans c.look-quarter.result.1 h c.take-taken.ensures.taken c.look-quarter.ensures.clear
