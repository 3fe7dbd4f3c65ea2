-- What a reservation says of the Confirm that it keeps.
use Rattle.std.proofs.Common.{◌≡◌, ℕ, ◌≤◌, true, nat_le, List, [], ◌∷◌, map, min, Option, Some, None, refl, sym, ◌∙◌, ap, arith, inl, inr, unwrap_or, le-leb}
use Rattle.std.specs.Prelude.{◌==◌}
use Rattle.std.proofs.lemmas.Bool.{eq-eqb, false_from_ne_true, leb-true}
use Rattle.aim_geometry.specs.Bounded.{least, min_with}
use Rattle.aim_geometry.specs.Cells.{Cell}
use Rattle.aim_messages.specs.declared.messages.Params.{Params}
use Rattle.aim_messages.specs.declared.messages.Body.TheVariants as body
use Rattle.aim_messages.specs.declared.replies.Reason.TheVariants as reason
use Rattle.aim_layout.specs.Intersection.{Intersection}
use Rattle.aim_sheets.specs.Spans.{in_spans}
use Rattle.aim_rules.specs.Answer.{first_step, where_so, own_refusal}
use Rattle.aim_rules.specs.Cells.{IsIn}
use Rattle.aim_rules.specs.History.{Fresh, params_at}
use Rattle.aim_rules.specs.Holds.{granted, granted_with, is_granted, is_granted_with}
use Rattle.aim_rules.specs.Trials.{Trial, arriving_at, granted_trial}
use Rattle.aim_rules.specs.Kept.{lasts}
use Rattle.aim_rules.specs.Known.{Known}
use Rattle.aim_rules.proofs.CellLemmas.{cells_has, cells_needed}
use Rattle.aim_rules.proofs.Lists.{IsIn-test, some_passes}
use Rattle.aim_book.specs.Desk.{IsHeld, Tells}
use Rattle.aim_reservations.specs.Rows.{row_of}
use Rattle.aim_book.specs.Reserved.{IsReservationOf}
use Rattle.aim_reservations.specs.SpanSteps.{IsFirstStep, Reaches}
use Rattle.aim_book.specs.declared.desks.Desk.{Desk}
use Rattle.aim_reservations.specs.declared.reservations.Reservation.{Reservation}

-- the cells that a Confirm grants are those of its list
pub granted_has : (i : Intersection) (x : Fresh) (c : Cell) → i.times.early ≤ i.times.edge → i.times.late ≤ i.times.edge → is_granted i x c ≡ true → IsIn c (granted i x)
granted_has i x c before after t = go (granted_trial x.entry.reply) (params_at x) t
  where
    go : (trial : Option Trial) (o : Option Params) → is_granted_with i trial c o ≡ true → IsIn c (granted_with i trial o)
    go trial None e = absurd (cc)
    go None (Some p) e = absurd (cc)
    go (Some trial) (Some p) e = cells_has i (arriving_at p trial.start) trial.fast c before after e

pub granted_needed : (i : Intersection) (x : Fresh) (c : Cell) → IsIn c (granted i x) → is_granted i x c ≡ true
granted_needed i x c m = go (granted_trial x.entry.reply) (params_at x) m
  where
    go : (trial : Option Trial) (o : Option Params) → IsIn c (granted_with i trial o) → is_granted_with i trial c o ≡ true
    go trial None e = absurd e
    go None (Some p) e = absurd e
    go (Some trial) (Some p) e = cells_needed i (arriving_at p trial.start) trial.fast c e

-- where all steps are at least s, so is the least
least_from : (xs : List Cell) (s m : ℕ) → ((c : Cell) → IsIn c xs → s ≤ c.step) → least (map (λ c. c.step) xs) ≡ Some m → s ≤ m
least_from [] s m all e = absurd (cc)
least_from (x ∷ xs) s m all e = go (least (map (λ c. c.step) xs)) refl e (λ n f. least_from xs s n (λ c i. all c (inr i)) f)
  where
    go : (o : Option ℕ) → least (map (λ c. c.step) xs) ≡ o → Some (min_with x.step o) ≡ Some m → ((n : ℕ) → least (map (λ c. c.step) xs) ≡ Some n → s ≤ n) → s ≤ m
    go None f g rest = let e : x.step ≡ m = cc in let l = all x (inl refl) in omega arith
    go (Some n) f g rest = let e : min x.step n ≡ m = cc in let l = all x (inl refl) in let u = rest n f in omega arith

-- the least step is s where a cell is of it and none is of an earlier one
least_is : (xs : List Cell) (d : Cell) → IsIn d xs → ((c : Cell) → IsIn c xs → d.step ≤ c.step) → least (map (λ c. c.step) xs) ≡ Some d.step
least_is [] d m all = absurd m
least_is (x ∷ xs) d (inl e) all = go (least (map (λ c. c.step) xs)) refl
  where
    go : (o : Option ℕ) → least (map (λ c. c.step) xs) ≡ o → Some (min_with x.step o) ≡ Some d.step
    go None f = rw e refl
    go (Some n) f = let l = least_from xs d.step n (λ c i. all c (inr i)) f in let q : min x.step n ≡ d.step = (let s : d.step ≡ x.step = rw e refl in omega arith) in rw q refl
least_is (x ∷ xs) d (inr m) all =
    let r = least_is xs d m (λ c i. all c (inr i)) in
    let l = all x (inl refl) in
    let q : min x.step d.step ≡ d.step = omega arith in
    rw (r, q) refl

-- the least step of a reservation's cells
pub first_is_least : (i : Intersection) (x : Fresh) (r : Reservation) (s : ℕ) → i.times.early ≤ i.times.edge → i.times.late ≤ i.times.edge → IsReservationOf i x r → IsFirstStep r.sheet.spans s → first_step i (Some x) ≡ s
first_is_least i x r s before after of first = go (granted i x) refl
  where
    go : (xs : List Cell) → granted i x ≡ xs → unwrap_or (least (map (λ c. c.step) xs)) 0 ≡ s
    go [] e = sym (first.none (λ c. false_from_ne_true (in_spans r.sheet.spans c) (λ t. (let m = granted_has i x c before after (sym (of.cells c) ∙ t) in absurd (rw e at m)))))
    go (c ∷ cs) e =
        let here : IsIn c (granted i x) = rw e (inl refl) in
        let d = first.reached c (of.cells c ∙ granted_needed i x c here) in
        let there : IsIn d.0 (c ∷ cs) = rw e at (granted_has i x d.0 before after (sym (of.cells d.0) ∙ d.1)) in
        ap (λ o. unwrap_or o 0) (least_is (c ∷ cs) d.0 there (λ b m. (let n : IsIn b (granted i x) = rw e m in let l = first.least b (of.cells b ∙ granted_needed i x b n) in let q = d.2 in omega arith))) ∙ d.2

-- a Confirm lasts exactly where its reservation reaches
pub lasts_reaches : (i : Intersection) (now : ℕ) (x : Fresh) (r : Reservation) → i.times.early ≤ i.times.edge → i.times.late ≤ i.times.edge → IsReservationOf i x r → Reaches r.sheet.spans now → lasts i now x ≡ true
lasts_reaches i now x r before after of reach =
    IsIn-test (λ c. nat_le now c.step) (granted i x) reach.0 (granted_has i x reach.0 before after (sym (of.cells reach.0) ∙ reach.1)) (le-leb now reach.0.step reach.2)

pub reaches_lasts : (i : Intersection) (now : ℕ) (x : Fresh) (r : Reservation) → IsReservationOf i x r → lasts i now x ≡ true → Reaches r.sheet.spans now
reaches_lasts i now x r of t =
    let s = some_passes (λ c. nat_le now c.step) (granted i x) t in (
      s.0,
      of.cells s.0 ∙ granted_needed i x s.0 s.1,
      leb-true now s.0.step s.2,
    )

-- a change of the reservation that is held
pub begun_is : {L : Type 0} (i : Intersection) (v place : ℕ) (k : Known) (d : Desk L) (own : Reservation) (id first : ℕ) (p : Params) → i.times.early ≤ i.times.edge → i.times.late ≤ i.times.edge →
    Tells i v place k d → row_of d.reservations.rows.items v ≡ Some own → Reaches own.sheet.spans d.reservations.table.current → own.id ≡ id → IsFirstStep own.sheet.spans first →
    own_refusal i k (body.Change id p) ≡ where_so (nat_le first d.reservations.table.current) (reason.Begun first)
begun_is i v place k d own id first p before after tells row reach same is_first = go k.holds refl tells.holds
  where
    go : (o : Option Fresh) → k.holds ≡ o → IsHeld i k.now o (row_of d.reservations.rows.items v) → own_refusal i k (body.Change id p) ≡ where_so (nat_le first d.reservations.table.current) (reason.Begun first)
    go None e none = absurd (none (rw (row, tells.now) reach))
    go (Some x) e held =
        let r : held.0 ≡ own = (let q : Some held.0 ≡ Some own = sym held.1 ∙ row in cc) in
        let of : IsReservationOf i x own = rw r at held.2 in
        let named : (x.place == id) ≡ true = eq-eqb x.place id (sym of.id ∙ same) in
        let least = first_is_least i x own first before after of is_first in
        rw (e, named, least, tells.now) refl
