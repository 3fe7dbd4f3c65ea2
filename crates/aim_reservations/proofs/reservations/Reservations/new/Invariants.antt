use Rattle.std.proofs.Common.{◌≡◌, ◌≤◌, None}
use Rattle.std.specs.Prelude.{replicate, vec_capacity}
use Rattle.aim_reservations.proofs.reservations.Reservations.new.Given as goal

abbrev pub invariant-loop : goal.invariant-loop
invariant-loop g l = (l.rows.items ≡ replicate l.counter None) × (l.vehicles ≤ vec_capacity l.rows)
