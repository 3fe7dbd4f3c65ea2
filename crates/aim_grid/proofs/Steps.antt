-- What one leg changes at the seats of the crossings.
use Rattle.std.proofs.Common.{◌≡◌, ◌≢◌, ℕ, suc, ◌+◌, ◌<◌, ◌==◌, inl, inr, List, [], ◌∷◌, ◌++◌, length, length-take-le, map, take, get_or, Some, None, if◌then◌else◌, refl, sym, ap, ◌∙◌, subst, arith}
use Rattle.std.specs.Prelude.{All, AllPairs, slice_get}
use Rattle.std.specs.List.{AllZip}
use Rattle.std.proofs.Math.ListN.{set}
use Rattle.std.proofs.lemmas.Bool.{and_from, and_left, and_right, cases_eq, cases_lt, eq-eqb, ne_eqb}
use Rattle.std.proofs.lemmas.List.{append-nil, get_or-take, get_or_past, get_or_read, length-set, map-append}
use Rattle.std.proofs.lemmas.List.Elements.{filter_more}
use Rattle.std.proofs.lemmas.Option.{get_or_from_slice_get, slice_get_within}
use Rattle.aim_driver.specs.declared.logs.LogItem.{LogItem}
use Rattle.aim_grid.specs.Agents.{AgentPass}
use Rattle.aim_grid.specs.Rode.{Managers}
use Rattle.aim_grid.specs.Models.{LegModel}
use Rattle.aim_drive.specs.Making.{log_of}
use Rattle.aim_grid_script.specs.declared.routes.PlannedLeg.{PlannedLeg}
use Rattle.aim_grid_script.specs.Fits.{AreApart}
use Rattle.aim_grid.specs.declared.seats.Seats.{Seats}
use Rattle.aim_grid.specs.Runs.{legs_for}
use Rattle.aim_grid.specs.Making.{AllKeep, AreOthers, HasNew, IsMadeLeg, IsTakenAt, Keeps, Seat, held, seat_of}
use Rattle.aim_grid.specs.Closing.{AllGive, Gives, Gone, IsBackAt, IsSeated}
use Rattle.aim_grid.proofs.Places.{others_filter}
use Rattle.aim_grid.proofs.Held.{all_keep_then}
use Rattle.aim_grid.proofs.Zips.{same_some, set_here, set_there, there, zip_push}

-- where a pass is held there is a seat
pub held_within : (s : Seats) (v : ℕ) (p : AgentPass) → held s v ≡ Some p → v < length s.passes.items
held_within s v p is = elim (cases_lt v (length s.passes.items)) [ inl l ↦ l | inr ge ↦ absurd (cc (get_or_past s.passes.items v None ge, is)) ]

-- what is read at a place is what stands there
pub read_seats : (seats : List Seats) (c : ℕ) (s t : Seats) → slice_get seats c ≡ Some s → t ≡ get_or seats c t → s ≡ t
read_seats seats c s t at is = sym (get_or_from_slice_get seats c s t at) ∙ sym is

-- a pass was taken

same_kept : (c : ℕ) (xs : List Seat) (s t : Seats) → s ≡ t → Keeps c xs s t
same_kept c xs s t e = subst (λ (u : Seats). Keeps c xs s u) e (record { many = refl; operator = refl; logs = refl; others = λ v h. refl })

pub one_taken : (seats : List Seats) (v c : ℕ) (s t : Seats) → slice_get seats c ≡ Some s → IsTakenAt v s t → AllKeep ((v, c) ∷ []) seats (set seats c t)
one_taken seats v c s t at taken = record {
  count = length-set seats c t;
  each = λ k u w a b.
      elim (cases_eq k c) [
        | inl e ↦
            subst (λ n. Keeps n ((v, c) ∷ []) u w) (sym e)
            (here u w (same_some (sym at ∙ ap (slice_get seats) (sym e) ∙ a)) (same_some (sym (set_here seats c s t at) ∙ ap (slice_get (set seats c t)) (sym e) ∙ b)))
        | inr ne ↦ same_kept k ((v, c) ∷ []) u w (same_some (sym a ∙ sym (set_there seats c k t ne) ∙ b))
      ];
}
  where
    here : (u w : Seats) → s ≡ u → t ≡ w → Keeps c ((v, c) ∷ []) u w
    here u w e f =
        subst (λ (x : Seats). Keeps c ((v, c) ∷ []) u x) f
        (subst (λ (x : Seats). Keeps c ((v, c) ∷ []) x t) e (record { many = taken.many; operator = taken.operator; logs = taken.logs; others = λ n h. taken.others n (λ is. h.0 (sym is) refl) }))

-- a seat of another leg still has its new pass
pub kept_new : (ms : Managers) (xs : List Seat) (seats new : List Seats) (p : PlannedLeg) → HasNew ms seats p → AllKeep xs seats new → AreOthers p.vehicle p.crossing xs → HasNew ms new p
kept_new ms xs seats new p h keeps others =
    let n : length new ≡ length seats = keeps.count in
    let l : p.crossing < length seats = slice_get_within seats p.crossing h.there h.at in
    let t = there new p.crossing (omega arith) in
    record { manager = h.manager; there = t.0; stands = h.stands; at = t.1; new = (keeps.each p.crossing h.there t.0 h.at t.1).others p.vehicle others ∙ h.new }

others_from : (v c : ℕ) (xs : List PlannedLeg) → ((j : ℕ) (d : PlannedLeg) → j < length xs → (get_or xs j d).vehicle ≡ v → (get_or xs j d).crossing ≢ c) → AreOthers v c (map seat_of xs)
others_from v c [] h = tt
others_from v c (x ∷ xs) h = (h 0 x (omega arith), others_from v c xs (λ j d l. h (suc j) d (omega arith)))

-- no leg of the vehicle before this one is at its crossing
pub others_before : (legs : List PlannedLeg) (k : ℕ) (p : PlannedLeg) → AllPairs AreApart legs → k < length legs → p ≡ get_or legs k p → AreOthers p.vehicle p.crossing (map seat_of (legs_for p.vehicle (take k legs)))
others_before legs k p apart l is = others_filter p.vehicle p.crossing (λ (q : PlannedLeg). q.vehicle == p.vehicle) (take k legs) (others_from p.vehicle p.crossing (take k legs) each)
  where
    each : (j : ℕ) (d : PlannedLeg) → j < length (take k legs) → (get_or (take k legs) j d).vehicle ≡ p.vehicle → (get_or (take k legs) j d).crossing ≢ p.crossing
    each j d lt v c =
        let n : length (take k legs) ≡ k = length-take-le k legs (omega arith) in
        let q : get_or (take k legs) j d ≡ get_or legs j d = get_or-take k legs j d (omega arith) in
        let r : p ≡ get_or legs k d = get_or_read legs k p l is d in
        apart j k d (omega arith) l (ap (λ (x : PlannedLeg). x.vehicle) (sym q) ∙ v ∙ ap (λ (x : PlannedLeg). x.vehicle) r) (ap (λ (x : PlannedLeg). x.crossing) (sym q) ∙ c ∙ ap (λ (x : PlannedLeg). x.crossing) r)

-- the legs of a vehicle, with one more
pub legs_more : (v : ℕ) (legs : List PlannedLeg) (k : ℕ) (p : PlannedLeg) → k < length legs → p ≡ get_or legs k p → p.vehicle ≡ v → legs_for v (take (k + 1) legs) ≡ legs_for v (take k legs) ++ p ∷ []
legs_more v legs k p l is own =
    filter_more (λ (q : PlannedLeg). q.vehicle == v) legs k p l
    ∙ ap (λ (q : PlannedLeg). legs_for v (take k legs) ++ (if q.vehicle == v then q ∷ [] else [])) (sym is)
    ∙ ap (λ b. legs_for v (take k legs) ++ (if b then p ∷ [] else [])) (eq-eqb p.vehicle v own)

pub legs_same : (v : ℕ) (legs : List PlannedLeg) (k : ℕ) (p : PlannedLeg) → k < length legs → p ≡ get_or legs k p → p.vehicle ≢ v → legs_for v (take (k + 1) legs) ≡ legs_for v (take k legs)
legs_same v legs k p l is other =
    filter_more (λ (q : PlannedLeg). q.vehicle == v) legs k p l
    ∙ ap (λ (q : PlannedLeg). legs_for v (take k legs) ++ (if q.vehicle == v then q ∷ [] else [])) (sym is)
    ∙ ap (λ b. legs_for v (take k legs) ++ (if b then p ∷ [] else [])) (ne_eqb p.vehicle v other)
    ∙ append-nil (legs_for v (take k legs))

-- a pass came back

some_back : (v c : ℕ) (log : List LogItem) (pass : AgentPass) (s t : Seats) → IsBackAt v log pass s t → Gives c (record { vehicle = v; crossing = c; log = log; pass = pass } ∷ []) s t
some_back v c log pass s t back = record {
  many = back.many;
  operator = back.operator;
  logs =
      back.logs
      ∙ ap (λ b. map log_of s.logs.items ++ map (λ (g : Gone). (g.vehicle, g.log)) (if b then record { vehicle = v; crossing = c; log = log; pass = pass } ∷ [] else [])) (sym (eq-eqb c c refl));
  after = λ w l.
      elim (cases_eq v w) [
        | inl e ↦ ap (held t) (sym e) ∙ back.own ∙ ap (λ b. if b then Some pass else held s w) (sym (and_from (v == w) (c == c) (eq-eqb v w e) (eq-eqb c c refl)))
        | inr ne ↦ back.others w (λ e. ne (sym e)) ∙ ap (λ b. if b then Some pass else held s w) (sym (and_left (v == w) (c == c) (ne_eqb v w ne)))
      ];
}

same_given : (v c k : ℕ) (log : List LogItem) (pass : AgentPass) (s t : Seats) → c ≢ k → s ≡ t → Gives k (record { vehicle = v; crossing = c; log = log; pass = pass } ∷ []) s t
same_given v c k log pass s t ne e =
    subst (λ (u : Seats). Gives k (record { vehicle = v; crossing = c; log = log; pass = pass } ∷ []) s u) e (record {
      many = refl;
      operator = refl;
      logs =
          sym (append-nil (map log_of s.logs.items))
          ∙ ap (λ b. map log_of s.logs.items ++ map (λ (g : Gone). (g.vehicle, g.log)) (if b then record { vehicle = v; crossing = c; log = log; pass = pass } ∷ [] else [])) (sym (ne_eqb c k ne));
      after = λ w l. ap (λ b. if b then Some pass else held s w) (sym (and_right (v == w) (c == k) (ne_eqb c k ne)));
    })

pub one_given : (seats : List Seats) (v c : ℕ) (log : List LogItem) (pass : AgentPass) (s t : Seats) → slice_get seats c ≡ Some s → IsBackAt v log pass s t
    → AllGive (record { vehicle = v; crossing = c; log = log; pass = pass } ∷ []) seats (set seats c t)
one_given seats v c log pass s t at back = record {
  count = length-set seats c t;
  each = λ k u w a b.
      elim (cases_eq k c) [
        | inl e ↦
            subst (λ n. Gives n (record { vehicle = v; crossing = c; log = log; pass = pass } ∷ []) u w) (sym e)
            (here u w (same_some (sym at ∙ ap (slice_get seats) (sym e) ∙ a)) (same_some (sym (set_here seats c s t at) ∙ ap (slice_get (set seats c t)) (sym e) ∙ b)))
        | inr ne ↦ same_given v c k log pass u w (λ e. ne (sym e)) (same_some (sym a ∙ sym (set_there seats c k t ne) ∙ b))
      ];
}
  where
    here : (u w : Seats) → s ≡ u → t ≡ w → Gives c (record { vehicle = v; crossing = c; log = log; pass = pass } ∷ []) u w
    here u w e f =
        subst (λ (x : Seats). Gives c (record { vehicle = v; crossing = c; log = log; pass = pass } ∷ []) u x) f
        (subst (λ (x : Seats). Gives c (record { vehicle = v; crossing = c; log = log; pass = pass } ∷ []) x t) e (some_back v c log pass s t back))

-- after legs came back, the others still have seats
pub seated_after : (gs : List Gone) (seats new : List Seats) (g : Gone) → AllGive gs seats new → IsSeated seats g → IsSeated new g
seated_after gs seats new g gives h =
    let n : length new ≡ length seats = gives.count in
    let l : g.crossing < length seats = slice_get_within seats g.crossing h.there h.at in
    let t = there new g.crossing (omega arith) in
    let many : length t.0.passes.items ≡ length h.there.passes.items = (gives.each g.crossing h.there t.0 h.at t.1).many in
    let low : g.vehicle < length h.there.passes.items = h.seat in
    record { there = t.0; at = t.1; seat = omega arith }

-- one leg more of a vehicle

pub leg_new : (ms : Managers) (seats now : List Seats) (v : ℕ) (legs : List PlannedLeg) (k : ℕ) (p : PlannedLeg) → All (λ (q : PlannedLeg). q.vehicle ≡ v → HasNew ms seats q) legs → AllPairs AreApart legs → k < length legs → p ≡ get_or legs k p → p.vehicle ≡ v
    → AllKeep (map seat_of (legs_for v (take k legs))) seats now → HasNew ms now p
leg_new ms seats now v legs k p new apart l is own keeps =
    kept_new ms (map seat_of (legs_for v (take k legs))) seats now p
    (subst (λ (q : PlannedLeg). HasNew ms seats q) (sym is) (new k p l (ap (λ (q : PlannedLeg). q.vehicle) (sym is) ∙ own))) keeps
    (subst (λ w. AreOthers p.vehicle p.crossing (map seat_of (legs_for w (take k legs)))) own (others_before legs k p apart l is))

pub made_more : (ms : Managers) (v : ℕ) (legs : List PlannedLeg) (k : ℕ) (p : PlannedLeg) (ls next : List LegModel) (x : LegModel) → k < length legs → p ≡ get_or legs k p → p.vehicle ≡ v → next ≡ ls ++ x ∷ [] → AllZip (IsMadeLeg ms) (legs_for v (take k legs)) ls
    → IsMadeLeg ms p x → AllZip (IsMadeLeg ms) (legs_for v (take (k + 1) legs)) next
made_more ms v legs k p ls next x l is own more before made =
    subst (λ (ps : List PlannedLeg). AllZip (IsMadeLeg ms) ps next) (sym (legs_more v legs k p l is own))
    (subst (λ (xs : List LegModel). AllZip (IsMadeLeg ms) (legs_for v (take k legs) ++ p ∷ []) xs) (sym more) (zip_push (IsMadeLeg ms) (legs_for v (take k legs)) ls p x before made))

pub kept_more : (v : ℕ) (legs : List PlannedLeg) (k : ℕ) (p : PlannedLeg) (seats now next : List Seats) → k < length legs → p ≡ get_or legs k p → p.vehicle ≡ v → AllKeep (map seat_of (legs_for v (take k legs))) seats now → AllKeep (seat_of p ∷ []) now next
    → AllKeep (map seat_of (legs_for v (take (k + 1) legs))) seats next
kept_more v legs k p seats now next l is own before more =
    subst (λ ss. AllKeep ss seats next) (sym (ap (map seat_of) (legs_more v legs k p l is own) ∙ map-append seat_of (legs_for v (take k legs)) (p ∷ [])))
    (all_keep_then (map seat_of (legs_for v (take k legs))) (seat_of p ∷ []) seats now next before more)
