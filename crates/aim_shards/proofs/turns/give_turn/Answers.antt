use Rattle.std.proofs.Common.{sym, ◌∙◌, arith}
use Rattle.aim_shards.proofs.Steps.{serves_as}
use Rattle.aim_shards.proofs.Walks.{last_turn, last_room, last_noted, last_suits}
use Rattle.aim_shards.proofs.turns.give_turn.Goals as goal

pub note-requires-clause-held : goal.note-requires-clause-held
note-requires-clause-held c = last_room c.requires.of c.part.ensures.spans (last_turn c.args.set.now c.args.quadrant (sym c.touches.ensures.touches ∙ c.if-not-touches.false) c.requires.gives)

pub fetch_add-requires : goal.fetch_add-requires
fetch_add-requires c =
    let l = last_turn c.args.set.now c.args.quadrant (sym c.touches.ensures.touches ∙ c.if-not-touches.false) c.requires.gives in
    let a = c.note.ensures.noted in
    (c.note.ensures.seat.0 ∙ c.requires.desk.0, omega (arith, c.requires.quadrant, c.requires.desk.1), serves_as _ _ _ _ _ _ l.ticket _ _ l.seen l.held _ a.new l.others _ c.requires.quadrant (last_suits c.part.ensures.spans l a) (last_noted l a))
