-- Trials at each step of a window.
use Rattle.std.proofs.Common.{◌≡◌, ℕ, zero, suc, ◌+◌, ◌-◌, ◌*◌, ◌<◌, ◌≤◌, Bool, true, false, ◌&&◌, not, nat_le, map, filter, length, List, [], ◌∷◌, ◌++◌, Option, Some, None, is_none, arith, refl, sym, ap, subst, ◌∙◌, ◌⊎◌, inl, inr, if◌then◌else◌}
use Rattle.std.specs.Prelude.{find, flat_map}
use Rattle.std.specs.List.{range_with_len}
use Rattle.std.proofs.Math.Decide.{dec_lt}
use Rattle.std.proofs.lemmas.Bool.Decides.{nat_tests}
use Rattle.aim_messages.specs.declared.messages.Params.{Params}
use Rattle.aim_messages.specs.declared.messages.Message.{Message}
use Rattle.aim_messages.specs.declared.entries.Act.TheVariants as act
use Rattle.aim_messages.specs.declared.entries.Entry.{Entry}
use Rattle.aim_messages.specs.declared.replies.Reason.{Reason}
use Rattle.aim_messages.specs.declared.replies.Reply.TheVariants as reply
use Rattle.aim_geometry.specs.Bounded.{some_below}
use Rattle.aim_geometry.specs.Cells.{Cell}
use Rattle.aim_geometry.specs.Ground.{is_edge}
use Rattle.aim_layout.specs.Intersection.{Intersection}
use Rattle.aim_rules.specs.Footprint.{crossing_steps, in_footprint}
use Rattle.aim_rules.specs.Cells.{block, in_cells, is_buffered}
use Rattle.aim_rules.specs.Trials.{Trial, arriving_at, candidates, granted_trial, has_windows, in_trial, is_fast_made, trial_cells}
use Rattle.aim_rules.specs.Bad.{span_count}
use Rattle.aim_rules.specs.History.{is_confirm, is_fresh_seq, now_of, params_of}
use Rattle.aim_rules.specs.Known.{Known, known_after}
use Rattle.aim_rules.specs.Answer.{answer, blocked_by, ends_beyond, first_blocked, is_free}
use Rattle.aim_rules.specs.Windows.{IsBlockedFor, later, trial_at}
use Rattle.aim_rules.proofs.TestLemmas.{is_most}
use Rattle.aim_rules.proofs.CellLemmas.{cells_needed}
use Rattle.aim_rules.proofs.Lists.{some_below-same, some_passes}
use Rattle.aim_rules.proofs.GrantLemmas.{grants_trial}
use Rattle.aim_rules.proofs.AheadLemmas.{grants_of, needed_below}
use Rattle.aim_rules.proofs.BlameLaws.{blocked_who, find_map-where}

some_same : {X : Type 0} (a b : X) → Some a ≡ Some b → a ≡ b
some_same a b p = cc

-- A trial moves with its start.

le_moves : (a b e d : ℕ) → nat_le (a + d) (b + d + e) ≡ nat_le a (b + e)
le_moves a b e d = go (nat_le (a + d) (b + d + e)) (nat_le a (b + e)) refl refl
  where
    go : (x y : Bool) → nat_le (a + d) (b + d + e) ≡ x → nat_le a (b + e) ≡ y → x ≡ y
    go true true p q = refl
    go false false p q = refl
    go true false p q = absurd (grind (arith, nat_tests))
    go false true p q = absurd (grind (arith, nat_tests))

buffered_moves : (i : Intersection) (row col at s d : ℕ) → is_buffered i row col (at + d) (s + d) ≡ is_buffered i row col at s
buffered_moves i row col at s d = λ j.
    (if is_edge i.grid row col then le_moves at s i.times.edge d j && le_moves s at i.times.edge d j
    else le_moves at s i.times.early d j && le_moves s at i.times.late d j)

pub in_cells-moves : (i : Intersection) (p : Params) (s d : ℕ) (fast : Bool) (c : Cell) → in_cells i (arriving_at p (s + d)) fast (later d c) ≡ in_cells i (arriving_at p s) fast c
in_cells-moves i p s d fast c =
    some_below-same (crossing_steps i p fast) (λ k. is_buffered i c.row c.col (s + d + k) (c.step + d) && in_footprint i p fast i.grid.fixed k c.row c.col)
    (λ k. is_buffered i c.row c.col (s + k) c.step && in_footprint i p fast i.grid.fixed k c.row c.col)
    (λ k l. let e : s + d + k ≡ s + k + d = omega arith in
    ap (λ at. is_buffered i c.row c.col at (c.step + d) && in_footprint i p fast i.grid.fixed k c.row c.col) e
    ∙ ap (λ b. b && in_footprint i p fast i.grid.fixed k c.row c.col) (buffered_moves i c.row c.col (s + k) c.step d))

-- so does the block of cells from which it has its own
abbrev cell : ℕ → ℕ → ℕ → Cell
cell s r c = record { row = r; col = c; step = s }

map-append : {X Y : Type 0} (f : X → Y) (xs ys : List X) → map f (xs ++ ys) ≡ map f xs ++ map f ys
map-append f [] ys = refl
map-append f (x ∷ xs) ys = ap (λ zs. f x ∷ zs) (map-append f xs ys)

row_moves : (d s r : ℕ) (cols : List ℕ) → map (cell (s + d) r) cols ≡ map (later d) (map (cell s r) cols)
row_moves d s r [] = refl
row_moves d s r (c ∷ cols) = ap (λ xs. cell (s + d) r c ∷ xs) (row_moves d s r cols)

step_moves : (d s : ℕ) (cols rows : List ℕ) → flat_map (λ r. map (cell (s + d) r) cols) rows ≡ map (later d) (flat_map (λ r. map (cell s r) cols) rows)
step_moves d s cols [] = refl
step_moves d s cols (r ∷ rows) =
    (λ j. row_moves d s r cols j ++ step_moves d s cols rows j)
    ∙ sym (map-append (later d) (map (cell s r) cols) (flat_map (λ r. map (cell s r) cols) rows))

block_moves : (n d a k : ℕ) → block n (range_with_len (a + d) k) ≡ map (later d) (block n (range_with_len a k))
block_moves n d a zero = refl
block_moves n d a (suc k) =
    let e : a + d + 1 ≡ a + 1 + d = omega arith in
    (λ j. step_moves d a (range_with_len 0 n) (range_with_len 0 n) j ++ (ap (λ b. block n (range_with_len b k)) e ∙ block_moves n d (a + 1) k) j)
    ∙ sym (map-append (later d) (flat_map (λ r. map (cell a r) (range_with_len 0 n)) (range_with_len 0 n)) (block n (range_with_len (a + 1) k)))

filter_moves : (q r : Cell → Bool) (d : ℕ) (xs : List Cell) → ((c : Cell) → q (later d c) ≡ r c) → filter q (map (later d) xs) ≡ map (later d) (filter r xs)
filter_moves q r d [] same = refl
filter_moves q r d (x ∷ xs) same = rw (same x) (go (r x) (filter_moves q r d xs same))
  where
    go : (b : Bool) → filter q (map (later d) xs) ≡ map (later d) (filter r xs) → (if b then later d x ∷ filter q (map (later d) xs) else filter q (map (later d) xs)) ≡ map (later d) (if b then x ∷ filter r xs else filter r xs)
    go true e = ap (λ ys. later d x ∷ ys) e
    go false e = e

-- From the edge buffer on, where no step is cut off at 0, a trial that starts later needs the same cells, as much
-- later.
pub cells-move : (i : Intersection) (p : Params) (s d : ℕ) (fast : Bool) → i.times.edge ≤ s → trial_cells i p (record { start = s + d; fast = fast }) ≡ map (later d) (trial_cells i p (record { start = s; fast = fast }))
cells-move i p s d fast l =
    let first : s + d - i.times.edge ≡ s - i.times.edge + d = omega arith in
    let all = block i.grid.n (range_with_len (s - i.times.edge) (crossing_steps i p fast + 2 * i.times.edge)) in
    ap (λ a. filter (in_cells i (arriving_at p (s + d)) fast) (block i.grid.n (range_with_len a (crossing_steps i p fast + 2 * i.times.edge)))) first
    ∙ ap (filter (in_cells i (arriving_at p (s + d)) fast)) (block_moves i.grid.n d (s - i.times.edge) (crossing_steps i p fast + 2 * i.times.edge))
    ∙ filter_moves (in_cells i (arriving_at p (s + d)) fast) (in_cells i (arriving_at p s) fast) d all (in_cells-moves i p s d fast)

-- and it has as many spans

span_row_moves : (d s : ℕ) (rows : List ℕ) → map (λ r. cell (s + d) r 0) rows ≡ map (later d) (map (λ r. cell s r 0) rows)
span_row_moves d s [] = refl
span_row_moves d s (r ∷ rows) = ap (λ xs. cell (s + d) r 0 ∷ xs) (span_row_moves d s rows)

abbrev span_block : ℕ → ℕ → ℕ → List Cell
span_block n a k = flat_map (λ s. map (λ r. cell s r 0) (range_with_len 0 n)) (range_with_len a k)

span_block_moves : (n d a k : ℕ) → span_block n (a + d) k ≡ map (later d) (span_block n a k)
span_block_moves n d a zero = refl
span_block_moves n d a (suc k) =
    let e : a + d + 1 ≡ a + 1 + d = omega arith in
    (λ j. span_row_moves d a (range_with_len 0 n) j ++ (ap (λ b. span_block n b k) e ∙ span_block_moves n d (a + 1) k) j)
    ∙ sym (map-append (later d) (map (λ r. cell a r 0) (range_with_len 0 n)) (span_block n (a + 1) k))

length-moved : (d : ℕ) (xs : List Cell) → length (map (later d) xs) ≡ length xs
length-moved d [] = refl
length-moved d (x ∷ xs) = ap (λ n. suc n) (length-moved d xs)

-- whether a row has a cell of the trial in a step
abbrev in_span : Intersection → Params → Bool → Cell → Bool
in_span i p fast c = some_below i.grid.n (λ col. in_cells i p fast (record c { col = col }))

in_span-moves : (i : Intersection) (p : Params) (s d : ℕ) (fast : Bool) (c : Cell) → in_span i (arriving_at p (s + d)) fast (later d c) ≡ in_span i (arriving_at p s) fast c
in_span-moves i p s d fast c =
    some_below-same i.grid.n (λ col. in_cells i (arriving_at p (s + d)) fast (later d (record c { col = col }))) (λ col. in_cells i (arriving_at p s) fast (record c { col = col }))
    (λ col l. in_cells-moves i p s d fast (record c { col = col }))

pub spans-move : (i : Intersection) (p : Params) (s d : ℕ) (fast : Bool) → i.times.edge ≤ s → span_count i (arriving_at p (s + d)) fast ≡ span_count i (arriving_at p s) fast
spans-move i p s d fast l =
    let first : s + d - i.times.edge ≡ s - i.times.edge + d = omega arith in
    let k = crossing_steps i p fast + 2 * i.times.edge in
    ap (λ a. length (filter (in_span i (arriving_at p (s + d)) fast) (span_block i.grid.n a k))) first
    ∙ ap (λ xs. length (filter (in_span i (arriving_at p (s + d)) fast) xs)) (span_block_moves i.grid.n d (s - i.times.edge) k)
    ∙ ap length (filter_moves (in_span i (arriving_at p (s + d)) fast) (in_span i (arriving_at p s) fast) d (span_block i.grid.n (s - i.times.edge) k) (in_span-moves i p s d fast))
    ∙ length-moved d (filter (in_span i (arriving_at p s) fast) (span_block i.grid.n (s - i.times.edge) k))

-- Which step of a window is granted.

find-window : (q : Trial → Bool) (f : ℕ → Trial) (a n : ℕ) (t : Trial) → find q (map f (range_with_len a n)) ≡ Some t →
    (s : ℕ) × (a ≤ s) × (s < a + n) × (t ≡ f s) × ((r : ℕ) → a ≤ r → r < s → q (f r) ≡ false)
find-window q f a zero t h = absurd (cc)
find-window q f a (suc n) t h = go (q (f a)) refl h (find-window q f (a + 1) n t)
  where
    go : (b : Bool) → q (f a) ≡ b → (if b then Some (f a) else find q (map f (range_with_len (a + 1) n))) ≡ Some t →
        (find q (map f (range_with_len (a + 1) n)) ≡ Some t → (s : ℕ) × (a + 1 ≤ s) × (s < a + 1 + n) × (t ≡ f s) × ((r : ℕ) → a + 1 ≤ r → r < s → q (f r) ≡ false)) →
        (s : ℕ) × (a ≤ s) × (s < a + suc n) × (t ≡ f s) × ((r : ℕ) → a ≤ r → r < s → q (f r) ≡ false)
    go true e h later = (a, omega arith, omega arith, sym (some_same (f a) t h), λ r low high. absurd (omega arith))
    go false e h later =
        let w = later h in
        let low = w.1 in
        let high = w.2 in (
          w.0,
          omega arith,
          omega arith,
          w.3,
          λ r from until. elim (dec_lt a r) [
            | yes b ↦ w.4 r (omega arith) until
            | no b ↦ (let s : r ≡ a = omega arith in rw s e)
          ],
        )

window_trials : (i : Intersection) (p : Params) → has_windows i ≡ true → candidates i p ≡ map (trial_at p) (range_with_len p.arrive (p.latest + 1 - p.arrive))
window_trials i p many = rw many refl

-- What a Confirm of a window grants: a step of it, before which no trial is free.
record IsLeast (i : Intersection) (h : List Entry) (v moment : ℕ) (p : Params) (start : ℕ) (fast : Bool) : Type 0 where
  pub from : p.arrive ≤ start
  pub until : start ≤ p.latest
  pub made : fast ≡ is_fast_made p
  pub within : ends_beyond i (known_after i h v moment) p (trial_at p start) ≡ false
  pub before : (s : ℕ) → p.arrive ≤ s → s < start → is_free i (known_after i h v moment) p (trial_at p s) ≡ false

is_least : (i : Intersection) (h : List Entry) (v moment : ℕ) (m : Message) (p : Params) (id start early late end : ℕ) (fast : Bool) → has_windows i ≡ true →
    is_fresh_seq h v m.seq ≡ true → params_of m.body ≡ Some p → answer i h v moment (act.Message m) ≡ reply.Confirm id start early late fast end → IsLeast i h v moment p start fast
is_least i h v moment m p id start early late end fast many new asks said =
    let k = known_after i h v moment in
    let g = grants_of i h v moment m p new asks (ap is_confirm said) in
    let same : g.trial ≡ record { start = start; fast = fast } = some_same g.trial (record { start = start; fast = fast }) (sym (grants_trial i k p (answer i h v moment (act.Message m)) g) ∙ ap granted_trial said) in
    let w = find-window (is_free i k p) (trial_at p) p.arrive (p.latest + 1 - p.arrive) g.trial (ap (find (is_free i k p)) (sym (window_trials i p many)) ∙ g.chosen) in
    let at : record { start = start; fast = fast } ≡ trial_at p w.0 = sym same ∙ w.3 in
    let e : start ≡ w.0 = ap (λ (t : Trial). t.start) at in
    let low = w.1 in
    let high = w.2 in
    record {
      from = omega arith;
      until = omega arith;
      made = ap (λ (t : Trial). t.fast) at;
      within = subst (λ t. ends_beyond i k p t ≡ false) (w.3 ∙ ap (trial_at p) (sym e)) g.within;
      before = λ s from until. w.4 s from (omega arith);
    }

not_free : (i : Intersection) (k : Known) (p : Params) (t : Trial) → is_free i k p t ≡ false → (ends_beyond i k p t ≡ true) ⊎ ((why : Reason) × (first_blocked i k p t ≡ Some why))
not_free i k p t h = go (ends_beyond i k p t) refl (first_blocked i k p t) refl h
  where
    go : (b : Bool) → ends_beyond i k p t ≡ b → (o : Option Reason) → first_blocked i k p t ≡ o → (not b && is_none o) ≡ false → (ends_beyond i k p t ≡ true) ⊎ ((why : Reason) × (first_blocked i k p t ≡ Some why))
    go true e o f h = inl e
    go false e None f h = absurd (cc)
    go false e (Some why) f h = inr (why, f)

-- A Confirm has the least step of its window that can be had: at each earlier one a cell is blocked.
pub least_step : (i : Intersection) (h : List Entry) (v moment : ℕ) (m : Message) (p : Params) (s id start early late end : ℕ) (fast : Bool) → i.times.early ≤ i.times.edge → i.times.late ≤ i.times.edge → has_windows i ≡ true →
    is_fresh_seq h v m.seq ≡ true → params_of m.body ≡ Some p → answer i h v moment (act.Message m) ≡ reply.Confirm id start early late fast end → p.arrive ≤ s → s < start →
    (c : Cell) × (in_trial i p (trial_at p s) c ≡ true) × IsBlockedFor i h (now_of h moment) v p.lane c
least_step i h v moment m p s id start early late end fast before after many new asks said from until =
    let r = is_least i h v moment m p id start early late end fast many new asks said in
    elim (not_free i (known_after i h v moment) p (trial_at p s) (r.before s from until)) [
      | inl far ↦ absurd (beyond r far)
      | inr b ↦ (
          let w = find_map-where (blocked_by i (known_after i h v moment) p) (trial_cells i p (trial_at p s)) b.0 b.1 in
          (w.0, cells_needed i (arriving_at p s) (is_fast_made p) w.0 w.1, blocked_who i h v moment p w.0 b.0 w.2))
    ]
  where
    beyond : IsLeast i h v moment p start fast → ends_beyond i (known_after i h v moment) p (trial_at p s) ≡ true → ⊥
    beyond r far =
        let x = some_passes (λ c. nat_le (now_of h moment + i.times.horizon) c.step) (trial_cells i p (trial_at p s)) far in
        let e : s + (start - s) ≡ start = omega arith in
        let moved : in_cells i (arriving_at p (s + (start - s))) (is_fast_made p) (later (start - s) x.0) ≡ true = in_cells-moves i p s (start - s) (is_fast_made p) x.0 ∙ cells_needed i (arriving_at p s) (is_fast_made p) x.0 x.1 in
        let needed : in_trial i p (trial_at p start) (later (start - s) x.0) ≡ true = subst (λ a. in_cells i (arriving_at p a) (is_fast_made p) (later (start - s) x.0) ≡ true) e moved in
        let below : x.0.step + (start - s) < now_of h moment + i.times.horizon = needed_below i (known_after i h v moment) p (trial_at p start) (later (start - s) x.0) before after r.within needed in
        let above = is_most (now_of h moment + i.times.horizon) x.0.step x.2 in
        omega arith

-- and it is the trial of a step of the window
pub within_window : (i : Intersection) (h : List Entry) (v moment : ℕ) (m : Message) (p : Params) (id start early late end : ℕ) (fast : Bool) → has_windows i ≡ true →
    is_fresh_seq h v m.seq ≡ true → params_of m.body ≡ Some p → answer i h v moment (act.Message m) ≡ reply.Confirm id start early late fast end →
    (p.arrive ≤ start) × (start ≤ p.latest) × (fast ≡ is_fast_made p)
within_window i h v moment m p id start early late end fast many new asks said =
    let r = is_least i h v moment m p id start early late end fast many new asks said in (r.from, r.until, r.made)
