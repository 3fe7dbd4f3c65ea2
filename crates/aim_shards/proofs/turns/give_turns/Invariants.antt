use Rattle.std.proofs.Common.{◌≡◌, ◌≤◌}
use Rattle.aim_shards.specs.Sets.{touched}
use Rattle.aim_shards.specs.Working.{Gives}
use Rattle.aim_shards.proofs.turns.give_turns.Given as goal

abbrev pub invariant-loop-quadrant : goal.invariant-loop-quadrant
invariant-loop-quadrant l = record {
  table : l.seat.table_id ≡ l.initial.seat.table_id;
  id : l.seat.id ≡ l.initial.seat.id;
  small : l.quadrant ≤ 4;
  gives : Gives l.number l.initial.seat.me.0.terms l.initial.seat.me.0.mine l.set l.entry (touched l.set l.quadrant) l.seat.me;
}

abbrev pub decreases-loop-quadrant : goal.decreases-loop-quadrant
decreases-loop-quadrant l = l.quadrant
