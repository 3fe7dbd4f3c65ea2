use Rattle.std.proofs.Common.{◌≡◌, ℕ, ◌<◌, bit_and}
use Rattle.std.specs.Prelude.{slice_index}
use Rattle.aim_layout.proofs.builders.share_bit.Given as goal

abbrev pub invariant-loop-row : goal.invariant-loop-row
invariant-loop-row l = (r : ℕ) → r < l.row → bit_and (slice_index l.a r) (slice_index l.b r) ≡ 0
