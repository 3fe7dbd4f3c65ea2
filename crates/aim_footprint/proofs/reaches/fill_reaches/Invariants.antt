use Rattle.std.proofs.Common.{◌≡◌, ◌≤◌, ◌<◌, ◌*◌, ◌+◌, ◌-◌, min, ℕ, nat_lt, false, length}
use Rattle.aim_rules.specs.Motion.{front, gain}
use Rattle.aim_footprint.specs.Reaches.{reach_at, reach_of}
use Rattle.aim_footprint.proofs.reaches.fill_reaches.Given as goal

abbrev pub invariant-steps : goal.invariant-steps
invariant-steps l = record {
  way : l.at ≡ front l.params l.fast l.k;
  speed : l.speed ≡ min (l.params.speed + l.gain * l.k) l.params.max_speed;
  gains : l.gain ≡ gain l.params l.fast;
  below : l.at ≤ 4000 * l.k;
  few : l.k ≤ 2048;
  none : (k : ℕ) → k < l.k → nat_lt l.end (front l.params l.fast k) ≡ false;
  len : length l.reaches ≡ 2048;
  exact : (k : ℕ) → k < l.k → reach_at l.reaches k ≡ reach_of l.layout l.params l.fast k;
}

abbrev pub decreases-steps : goal.decreases-steps
decreases-steps l = 2048 - l.k
