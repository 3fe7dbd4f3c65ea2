-- Params of which no field is wrong.
use Rattle.std.proofs.Common.{◌≡◌, ℕ, ◌+◌, ◌<◌, ◌≤◌, Bool, true, false, not, ◌&&◌, ◌||◌, nat_lt, nat_le, length, Option, Some, None, is_none, arith, refl, ap, if◌then◌else◌}
use Rattle.std.proofs.lemmas.Bool.{and_parts}
use Rattle.std.proofs.lemmas.Bool.Decides.{nat_tests}
use Rattle.aim_messages.specs.declared.messages.Params.{Params}
use Rattle.aim_messages.specs.declared.entries.TheConstants.{LATEST_MOMENT}
use Rattle.aim_messages.specs.declared.replies.Field.TheVariants as field
use Rattle.aim_geometry.specs.Bounded.{is_outside}
use Rattle.aim_layout.specs.Intersection.{Intersection, path}
use Rattle.aim_rules.specs.Footprint.{crossing_steps}
use Rattle.aim_rules.specs.Bad.{bad, has_bad_window, needs_too_many_spans, span_count, IsGood}
use Rattle.aim_rules.specs.Trials.{has_windows, is_fast_made, judged}
use Rattle.aim_rules.proofs.TestLemmas.{both, le_false, more_than, not_less, not_true}

if_none : {X : Type 0} (b : Bool) (f : X) (o : Option X) → (if b then Some f else o) ≡ None → (b ≡ false) × (o ≡ None)
if_none true f o h = absurd (cc)
if_none false f o h = (refl, h)

outside : (n most : ℕ) → is_outside n most ≡ false → (1 ≤ n) × (n ≤ most)
outside n most h = grind (arith, nat_tests)

inside : (n most : ℕ) → 1 ≤ n → n ≤ most → is_outside n most ≡ false
inside n most a b = grind (arith, nat_tests)

neither : (a b : Bool) → (a || b) ≡ false → (a ≡ false) × (b ≡ false)
neither true b h = absurd (cc)
neither false b h = (refl, h)

if_made : (a b : Bool) → (a && b) ≡ false → a ≡ true → b ≡ false
if_made true b h t = h
if_made false b h t = absurd (cc)

-- the bounds of a window that isn't bad
pub good_window : (i : Intersection) (p : Params) → has_bad_window i p ≡ false → has_windows i ≡ true → (p.arrive ≤ p.latest) × (p.latest ≤ LATEST_MOMENT) × (p.latest ≤ p.arrive + i.times.window)
good_window i p h w =
    let a = if_made (has_windows i) (nat_lt p.latest p.arrive || nat_lt LATEST_MOMENT p.latest || nat_lt (p.arrive + i.times.window) p.latest) h w in
    let b = neither (nat_lt p.latest p.arrive || nat_lt LATEST_MOMENT p.latest) (nat_lt (p.arrive + i.times.window) p.latest) a in
    let c = neither (nat_lt p.latest p.arrive) (nat_lt LATEST_MOMENT p.latest) b.0 in
    (not_less p.latest p.arrive c.0, not_less LATEST_MOMENT p.latest c.1, not_less (p.arrive + i.times.window) p.latest b.1)

pub good_params : (i : Intersection) (p : Params) → bad i p ≡ None → IsGood i p
good_params i p h =
    let r8 = if needs_too_many_spans i p then Some field.Spans else None in
    let r7 = if nat_lt 2048 (crossing_steps i p (judged i p).fast) then Some field.Steps else r8 in
    let r6 = if is_outside p.width 30000 then Some field.Width else r7 in
    let r5 = if is_outside p.length 30000 then Some field.Length else r6 in
    let r4 = if nat_lt 1000 p.accel then Some field.Accel else r5 in
    let r3 = if is_outside p.speed p.max_speed then Some field.Speed else r4 in
    let r2 = if is_outside p.max_speed 4000 then Some field.Max else r3 in
    let rl = if has_bad_window i p then Some field.Latest else r2 in
    let r1 = if nat_lt LATEST_MOMENT p.arrive then Some field.Arrive else rl in
    let r0 = if is_none (path i p.lane p.turn) then Some field.Turn else r1 in
    let a = if_none (nat_le (length i.lanes) p.lane) field.Lane r0 h in
    let b = if_none (is_none (path i p.lane p.turn)) field.Turn r1 a.1 in
    let c = if_none (nat_lt LATEST_MOMENT p.arrive) field.Arrive rl b.1 in
    let l = if_none (has_bad_window i p) field.Latest r2 c.1 in
    let d = if_none (is_outside p.max_speed 4000) field.Max r3 l.1 in
    let e = if_none (is_outside p.speed p.max_speed) field.Speed r4 d.1 in
    let f = if_none (nat_lt 1000 p.accel) field.Accel r5 e.1 in
    let g = if_none (is_outside p.length 30000) field.Length r6 f.1 in
    let w = if_none (is_outside p.width 30000) field.Width r7 g.1 in
    let k = if_none (nat_lt 2048 (crossing_steps i p (judged i p).fast)) field.Steps r8 w.1 in
    let s = if_none (needs_too_many_spans i p) field.Spans None k.1 in
    let n = neither (nat_lt i.grid.spans (span_count i p (judged i p).fast)) (not (has_windows i) && is_fast_made p && nat_lt i.grid.spans (span_count i p true)) s.0 in
    record {
      lane = more_than (length i.lanes) p.lane a.0;
      turn = b.0;
      arrive = not_less LATEST_MOMENT p.arrive c.0;
      window = good_window i p l.0;
      greatest = outside p.max_speed 4000 d.0;
      speed = outside p.speed p.max_speed e.0;
      accel = not_less 1000 p.accel f.0;
      length = outside p.length 30000 g.0;
      width = outside p.width 30000 w.0;
      steps = not_less 2048 (crossing_steps i p (judged i p).fast) k.0;
      judged = not_less i.grid.spans (span_count i p (judged i p).fast) n.0;
      fast = λ one made. not_less i.grid.spans (span_count i p true) (if_made (not (has_windows i) && is_fast_made p) (nat_lt i.grid.spans (span_count i p true)) n.1 (both (not (has_windows i)) (is_fast_made p) (ap not one) made));
    }

-- the speed of good params
pub good_speed : (i : Intersection) (p : Params) → bad i p ≡ None → (0 < p.speed) × (p.speed ≤ p.max_speed)
good_speed i p h = let g = good_params i p h in (g.speed.0, g.speed.1)

lt_false : (m n : ℕ) → n ≤ m → nat_lt m n ≡ false
lt_false m n l = grind (arith, nat_tests)

fits_if : (a b : Bool) → (a ≡ true → b ≡ false) → (a && b) ≡ false
fits_if true b h = h refl
fits_if false b h = refl

none_of : (a b : Bool) → a ≡ false → b ≡ false → (a || b) ≡ false
none_of a b p q = rw (p, q) refl

-- a window within the bounds isn't bad
within : (i : Intersection) (p : Params) → IsGood i p → has_bad_window i p ≡ false
within i p g = fits_if (has_windows i) (nat_lt p.latest p.arrive || nat_lt LATEST_MOMENT p.latest || nat_lt (p.arrive + i.times.window) p.latest) (λ w.
    let b = g.window w in
    none_of (nat_lt p.latest p.arrive || nat_lt LATEST_MOMENT p.latest) (nat_lt (p.arrive + i.times.window) p.latest)
    (none_of (nat_lt p.latest p.arrive) (nat_lt LATEST_MOMENT p.latest) (lt_false p.latest p.arrive b.0) (lt_false LATEST_MOMENT p.latest b.1)) (lt_false (p.arrive + i.times.window) p.latest b.2))

pub no_field : (i : Intersection) (p : Params) → IsGood i p → bad i p ≡ None
no_field i p g =
    let one : (not (has_windows i) && is_fast_made p && nat_lt i.grid.spans (span_count i p true)) ≡ false =
    fits_if (not (has_windows i) && is_fast_made p) (nat_lt i.grid.spans (span_count i p true)) (λ w.
    let b = and_parts (not (has_windows i)) (is_fast_made p) w in
    lt_false i.grid.spans (span_count i p true) (g.fast (not_true (has_windows i) b.0) b.1)) in
    let spans : needs_too_many_spans i p ≡ false = none_of (nat_lt i.grid.spans (span_count i p (judged i p).fast)) (not (has_windows i) && is_fast_made p && nat_lt i.grid.spans (span_count i p true)) (lt_false i.grid.spans (span_count i p (judged i p).fast) g.judged) one in
    chain (nat_le (length i.lanes) p.lane) (is_none (path i p.lane p.turn)) (nat_lt LATEST_MOMENT p.arrive) (has_bad_window i p) (is_outside p.max_speed 4000) (is_outside p.speed p.max_speed) (nat_lt 1000 p.accel) (is_outside p.length 30000) (is_outside p.width 30000) (nat_lt 2048 (crossing_steps i p (judged i p).fast)) (needs_too_many_spans i p)
    (le_false (length i.lanes) p.lane g.lane) g.turn (lt_false LATEST_MOMENT p.arrive g.arrive) (within i p g) (inside p.max_speed 4000 g.greatest.0 g.greatest.1) (inside p.speed p.max_speed g.speed.0 g.speed.1) (lt_false 1000 p.accel g.accel)
    (inside p.length 30000 g.length.0 g.length.1) (inside p.width 30000 g.width.0 g.width.1) (lt_false 2048 (crossing_steps i p (judged i p).fast) g.steps) spans
  where
    chain : (a b c l d e f g h k s : Bool) → a ≡ false → b ≡ false → c ≡ false → l ≡ false → d ≡ false → e ≡ false → f ≡ false → g ≡ false → h ≡ false → k ≡ false → s ≡ false →
        (if a then Some field.Lane else if b then Some field.Turn else if c then Some field.Arrive else if l then Some field.Latest else if d then Some field.Max else if e then Some field.Speed
        else if f then Some field.Accel else if g then Some field.Length else if h then Some field.Width else if k then Some field.Steps else if s then Some field.Spans else None) ≡ None
    chain a b c l d e f g h k s pa pb pc pl pd pe pf pg ph pk ps = rw (pa, pb, pc, pl, pd, pe, pf, pg, ph, pk, ps) refl
