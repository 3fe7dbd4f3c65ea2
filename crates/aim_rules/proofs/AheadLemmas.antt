-- Where in time a granted cell lies.
use Rattle.std.proofs.Common.{◌≡◌, ℕ, ◌+◌, ◌<◌, ◌≤◌, Bool, true, false, ◌&&◌, ◌||◌, nat_le, List, [], ◌∷◌, Some, arith, refl, sym, subst, ◌∙◌, ap, inl, inr}
use Rattle.std.specs.List.{list_any}
use Rattle.aim_messages.specs.declared.messages.Params.{Params}
use Rattle.aim_messages.specs.declared.messages.Message.{Message}
use Rattle.aim_messages.specs.declared.entries.Entry.{Entry}
use Rattle.aim_messages.specs.declared.entries.Act.TheVariants as act
use Rattle.aim_layout.specs.Intersection.{Intersection}
use Rattle.aim_rules.specs.Footprint.{crossing_steps, in_footprint}
use Rattle.aim_geometry.specs.Cells.{Cell}
use Rattle.aim_rules.specs.Cells.{IsIn, is_buffered, in_cells}
use Rattle.aim_rules.specs.Trials.{Trial, arriving_at, granted_trial, in_trial, trial_cells}
use Rattle.aim_rules.specs.History.{is_fresh_seq, is_confirm, now_of, params_of, fresh, Fresh}
use Rattle.aim_rules.specs.Holds.{is_granted, is_granted_with, reservations}
use Rattle.aim_rules.specs.Answer.{answer, answer_fresh, ends_beyond}
use Rattle.aim_rules.specs.Known.{Known, known_after}
use Rattle.aim_geometry.proofs.BoundedLemmas.{some_below_found}
use Rattle.aim_rules.proofs.TestLemmas.{and_left, more_than}
use Rattle.aim_rules.proofs.CellLemmas.{cells_has, kept_within}
use Rattle.aim_rules.proofs.GrantLemmas.{IsGranted, fresh_grants, grants_trial, starts_later}
use Rattle.aim_rules.proofs.FreeLemmas.{free-disjoint}
use Rattle.aim_rules.proofs.HistoryLaws.{seq_said}
use Rattle.std.specs.Prelude.{◌==◌}

-- a needed cell comes after a time that the arrival is later than by more than the edge buffer
pub needed_after : (i : Intersection) (p : Params) (fast : Bool) (now : ℕ) (c : Cell) → i.times.early ≤ i.times.edge → i.times.late ≤ i.times.edge →
    nat_le p.arrive (now + i.times.edge) ≡ false → in_cells i p fast c ≡ true → now < c.step
needed_after i p fast now c before after later needed =
    let f = some_below_found (crossing_steps i p fast) (λ k. is_buffered i c.row c.col (p.arrive + k) c.step && in_footprint i p fast i.grid.fixed k c.row c.col) needed in
    let w = kept_within i c.row c.col (p.arrive + f.0) c.step before after (and_left (is_buffered i c.row c.col (p.arrive + f.0) c.step) (in_footprint i p fast i.grid.fixed f.0 c.row c.col) f.2) in
    let a = w.0 in
    let m = more_than p.arrive (now + i.times.edge) later in
    omega arith

-- an element of a list in which none passes does not pass
pub none_passes : {X : Type 0} (q : X → Bool) (xs : List X) (x : X) → list_any q xs ≡ false → IsIn x xs → q x ≡ false
none_passes q [] x h m = absurd m
none_passes q (y ∷ xs) x h (inl e) = rw e (either_false (q y) (list_any q xs) h).0
  where
    either_false : (a b : Bool) → (a || b) ≡ false → (a ≡ false) × (b ≡ false)
    either_false true b h = absurd (cc)
    either_false false b h = (refl, h)
none_passes q (y ∷ xs) x h (inr m) = none_passes q xs x (rest (q y) (list_any q xs) h) m
  where
    rest : (a b : Bool) → (a || b) ≡ false → b ≡ false
    rest true b h = absurd (cc)
    rest false b h = h

-- a cell of a trial that has none from the horizon on lies below it
pub needed_below : (i : Intersection) (k : Known) (p : Params) (t : Trial) (c : Cell) → i.times.early ≤ i.times.edge → i.times.late ≤ i.times.edge →
    ends_beyond i k p t ≡ false → in_trial i p t c ≡ true → c.step < k.now + i.times.horizon
needed_below i k p t c before after near needed =
    more_than (k.now + i.times.horizon) c.step (none_passes (λ c. nat_le (k.now + i.times.horizon) c.step) (trial_cells i p t) c near (cells_has i (arriving_at p t.start) t.fast c before after needed))

-- the answer to a fresh message
pub fresh_answer : (i : Intersection) (h : List Entry) (v moment : ℕ) (m : Message) → is_fresh_seq h v m.seq ≡ true →
    answer i h v moment (act.Message m) ≡ answer_fresh i (known_after i h v moment) m.body
fresh_answer i h v moment m new = rw (← seq_said h v m.seq, new) refl

-- what a Confirm to a fresh message rests on, with the params that it carries
pub grants_of : (i : Intersection) (h : List Entry) (v moment : ℕ) (m : Message) (p : Params) → is_fresh_seq h v m.seq ≡ true → params_of m.body ≡ Some p →
    is_confirm (answer i h v moment (act.Message m)) ≡ true → IsGranted i (known_after i h v moment) p (answer i h v moment (act.Message m))
grants_of i h v moment m p new asks confirmed =
    let said = fresh_answer i h v moment m new in
    subst (IsGranted i (known_after i h v moment) p) (sym said) (fresh_grants i (known_after i h v moment) m.body p asks (ap is_confirm (sym said) ∙ confirmed))

-- a cell that is granted is one of the trial's
pub granted_in : (i : Intersection) (h : List Entry) (v moment : ℕ) (m : Message) (p : Params) (c : Cell) (g : IsGranted i (known_after i h v moment) p (answer i h v moment (act.Message m))) →
    is_granted_with i (granted_trial (answer i h v moment (act.Message m))) c (Some p) ≡ true → in_trial i p g.trial c ≡ true
granted_in i h v moment m p c g granted =
    subst (λ o. is_granted_with i o c (Some p) ≡ true) (grants_trial i (known_after i h v moment) p (answer i h v moment (act.Message m)) g) granted

pub granted_ahead : (i : Intersection) (h : List Entry) (v moment : ℕ) (m : Message) (p : Params) (c : Cell) → 0 < i.grid.spacing → i.times.early ≤ i.times.edge → i.times.late ≤ i.times.edge →
    is_fresh_seq h v m.seq ≡ true → params_of m.body ≡ Some p → is_confirm (answer i h v moment (act.Message m)) ≡ true →
    is_granted_with i (granted_trial (answer i h v moment (act.Message m))) c (Some p) ≡ true → (now_of h moment < c.step) × (c.step < now_of h moment + i.times.horizon)
granted_ahead i h v moment m p c spaced before after new asks confirmed granted =
    let g = grants_of i h v moment m p new asks confirmed in
    let needed = granted_in i h v moment m p c g granted in (
      needed_after i (arriving_at p g.trial.start) g.trial.fast (now_of h moment) c before after (starts_later i p g.trial (now_of h moment + i.times.edge) g.among g.later) needed,
      needed_below i (known_after i h v moment) p g.trial c before after g.within needed,
    )

pub granted_free : (i : Intersection) (h : List Entry) (v moment : ℕ) (m : Message) (p : Params) (c : Cell) (x : Fresh) → i.times.early ≤ i.times.edge → i.times.late ≤ i.times.edge →
    is_fresh_seq h v m.seq ≡ true → params_of m.body ≡ Some p → is_confirm (answer i h v moment (act.Message m)) ≡ true →
    is_granted_with i (granted_trial (answer i h v moment (act.Message m))) c (Some p) ≡ true → IsIn x (reservations i (fresh h) (now_of h moment)) → ((x.entry.caller == v) ≡ false) → is_granted i x c ≡ false
granted_free i h v moment m p c x before after new asks confirmed granted holds other =
    let g = grants_of i h v moment m p new asks confirmed in
    free-disjoint i h v moment p g.trial c x g.free
    (cells_has i (arriving_at p g.trial.start) g.trial.fast c before after (granted_in i h v moment m p c g granted)) holds other
