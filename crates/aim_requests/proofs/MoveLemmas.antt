-- Windows that move on with the steps.
use Rattle.std.proofs.Common.{◌≡◌, ℕ, ◌+◌, ◌-◌, ◌<◌, ◌≤◌, false, ◌&&◌, nat_le, min, List, length, arith}
use Rattle.std.proofs.lemmas.Bool.{and_parts, false_from_ne_true, leb-true}
use Rattle.aim_geometry.specs.declared.tiles.TileRect.{TileRect}
use Rattle.aim_footprint.specs.declared.reaches.Reach.{Reach}
use Rattle.aim_footprint.specs.declared.windows.TileWindow.{TileWindow}
use Rattle.aim_footprint.specs.Windows.{IsWindow}
use Rattle.aim_footprint.specs.Reaches.{AreReaches}
use Rattle.aim_requests.specs.Moves.{IsMoved, MayMove}

-- what may move to a step may move to a later one
pub may_later : (rects : List TileRect) (reaches : List Reach) (w : TileWindow) (low high low2 high2 : ℕ) → low ≤ low2 → high ≤ high2 → MayMove rects reaches w low high → MayMove rects reaches w low2 high2
may_later rects reaches w low high low2 high2 a b m = record {
  window = m.window;
  low_on = λ j l n. m.low_on j (omega arith) n;
  next_on = λ j l n. m.next_on j (omega arith) n;
}

-- what has moved to a step may move on from it
pub moved_may : (rects : List TileRect) (reaches : List Reach) (w : TileWindow) (low high count : ℕ) → AreReaches count reaches → IsMoved rects reaches w low high → low < length reaches → high < length reaches → MayMove rects reaches w low high
moved_may rects reaches w low high count r m a b = record {
  window = m.window;
  low_on = λ j l n. let e = m.first in let h = r.low_rises low j l n in omega arith;
  next_on = λ j l n. let e = m.past in let h = r.high_rises high j l n in omega arith;
}

-- the window on the first rectangle may move to any step
pub first_may : (rects : List TileRect) (reaches : List Reach) (w : TileWindow) → IsWindow rects w → w.low ≡ 0 → w.next ≡ 1 → MayMove rects reaches w 0 0
first_may rects reaches w i a b = record {
  window = i;
  low_on = λ j l n. omega arith;
  next_on = λ j l n. omega arith;
}

-- the first and the last crossing step within the buffers of a step
pub steps_order : (t early late edge end : ℕ) → edge ≤ t + early → t ≤ end + edge + late → t - (edge + late) ≤ min (t + early - edge) end
steps_order t early late edge end from to = omega arith

pub steps_below : (high count : ℕ) → 0 < count → min high (count - 1) < count
steps_below high count some = omega arith

-- what may move to a step's crossing steps may move to the next one's
pub kept_later : (rects : List TileRect) (reaches : List Reach) (w : TileWindow) (t early late edge end : ℕ) → MayMove rects reaches w (t - (edge + late)) (min (t + early - edge) end)
    → MayMove rects reaches w (t + 1 - (edge + late)) (min (t + 1 + early - edge) end)
kept_later rects reaches w t early late edge end may =
    may_later rects reaches w (t - (edge + late)) (min (t + early - edge) end) (t + 1 - (edge + late)) (min (t + 1 + early - edge) end) (omega arith) (omega arith) may

-- what has moved to a step's crossing steps may move on to the next one's
pub moved_later : (rects : List TileRect) (reaches : List Reach) (w : TileWindow) (t early late edge count : ℕ) → AreReaches count reaches → 0 < length reaches
    → t ≤ length reaches - 1 + edge + late → IsMoved rects reaches w (t - (edge + late)) (min (t + early - edge) (length reaches - 1))
    → MayMove rects reaches w (t + 1 - (edge + late)) (min (t + 1 + early - edge) (length reaches - 1))
moved_later rects reaches w t early late edge count r some within moved =
    let low : t - (edge + late) < length reaches = omega arith in
    kept_later rects reaches w t early late edge (length reaches - 1)
    (moved_may rects reaches w (t - (edge + late)) (min (t + early - edge) (length reaches - 1)) count r moved low (steps_below (t + early - edge) (length reaches) some))

-- no crossing step is within the buffers of a step before the first one's or after the last one's
pub steps_before : (t early late edge end : ℕ) → t + early < edge → (nat_le edge (t + early) && nat_le t (end + edge + late)) ≡ false
steps_before t early late edge end before = false_from_ne_true (nat_le edge (t + early) && nat_le t (end + edge + late))
    (λ h. let from = leb-true edge (t + early) (and_parts (nat_le edge (t + early)) (nat_le t (end + edge + late)) h).0 in omega arith)

pub steps_after : (t early late edge end : ℕ) → end + edge + late < t → (nat_le edge (t + early) && nat_le t (end + edge + late)) ≡ false
steps_after t early late edge end after = false_from_ne_true (nat_le edge (t + early) && nat_le t (end + edge + late))
    (λ h. let to = leb-true t (end + edge + late) (and_parts (nat_le edge (t + early)) (nat_le t (end + edge + late)) h).1 in omega arith)
