-- Spans that come later, or earlier, are in order as they were.
use Rattle.std.proofs.Common.{◌≡◌, ℕ, ◌<◌, ◌≤◌, List, length, map, get_or, arith}
use Rattle.std.proofs.lemmas.List.{get_or-map, length-map}
use Rattle.aim_sheets.specs.declared.spans.Span.{Span}
use Rattle.aim_sheets.specs.Moves.{MayMove, moved}
use Rattle.aim_sheets.specs.Sheets.{IsInOrder}
use Rattle.aim_sheets.specs.Spans.{AreRising, AreMarked}
use Rattle.aim_sheets.proofs.Order.{Precedes, precedes_parts, precedes_from}

pub moved_rising : (from to : ℕ) (xs : List Span) → MayMove from to xs → AreRising xs → AreRising (map (moved from to) xs)
moved_rising from to xs may rising j k d below le =
    let n : length (map (moved from to) xs) ≡ length xs = length-map xs (moved from to) in
    let lk : k < length xs = omega arith in
    let lj : j < length xs = omega arith in
    let p : Precedes (get_or xs j d) (get_or xs k d).step (get_or xs k d).row = precedes_parts _ _ _ (rising j k d below lk) in
    let a = (may j d lj).0 in
    let b = (may k d lk).0 in
    rw (get_or-map (moved from to) xs j d d lj, get_or-map (moved from to) xs k d d lk)
    (precedes_from (moved from to (get_or xs j d)) (moved from to (get_or xs k d)).step (get_or xs k d).row (record {
      no_later = omega (arith, p.no_later);
      lower = λ e. p.lower (omega (arith, p.no_later));
    }))

pub moved_marked : (from to : ℕ) (xs : List Span) → AreMarked xs → AreMarked (map (moved from to) xs)
moved_marked from to xs marked k d le =
    let n : length (map (moved from to) xs) ≡ length xs = length-map xs (moved from to) in
    let lk : k < length xs = omega arith in
    rw (get_or-map (moved from to) xs k d d lk) (marked k d lk)

pub moved_in_order : (from to room : ℕ) (xs : List Span) → MayMove from to xs → AreRising xs → AreMarked xs → length xs ≤ room →
    IsInOrder (record { spans = map (moved from to) xs; room = room })
moved_in_order from to room xs may rising marked fits = record {
  rising = moved_rising from to xs may rising;
  marked = moved_marked from to xs marked;
  fits = (let n : length (map (moved from to) xs) ≡ length xs = length-map xs (moved from to) in omega arith);
}
