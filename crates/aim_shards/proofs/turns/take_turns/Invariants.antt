use Rattle.std.proofs.Common.{◌≡◌, ◌≤◌, length}
use Rattle.aim_shards.specs.Found.{IsFound}
use Rattle.aim_shards.specs.Sets.{touched, IsOf}
use Rattle.aim_shards.specs.Working.{Works}
use Rattle.aim_shards.proofs.turns.take_turns.Given as goal

abbrev pub invariant-loop-quadrant : goal.invariant-loop-quadrant
invariant-loop-quadrant g l = record {
  table : l.seat.table_id ≡ l.initial.seat.table_id;
  id : l.seat.id ≡ l.initial.seat.id;
  works : Works l.number l.initial.seat.me.0.terms l.initial.seat.me.0.mine (touched l.set l.quadrant) l.seat.me;
  of : IsOf l.initial.seat.me.0.terms.sets l.set;
  four : 1 ≤ l.quadrant → length l.set ≡ 4;
  found : IsFound l.set l.quadrant l.seat.me l.found;
}
