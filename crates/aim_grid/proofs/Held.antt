-- What is held at the seats of a crossing after passes were taken and came back.
use Rattle.std.proofs.Common.{◌≡◌, ◌≢◌, ℕ, ◌<◌, ◌==◌, ◌&&◌, Bool, true, false, ◌⊎◌, inl, inr, List, [], ◌∷◌, ◌++◌, length, map, get_or, Option, Some, if◌then◌else◌, refl, sym, ap, ◌∙◌, subst, arith}
use Rattle.std.specs.Prelude.{slice_get}
use Rattle.std.specs.List.{AllByRecursion}
use Rattle.std.proofs.lemmas.Bool.{and_parts, and_from, and_cases, eqb-true, eqb-false, eq-eqb}
use Rattle.std.proofs.lemmas.List.{append-nil, append_assoc}
use Rattle.std.proofs.lemmas.Option.{slice_get_within, slice_get-get_or}
use Rattle.aim_grid.specs.Agents.{AgentPass}
use Rattle.aim_drive.specs.Making.{log_of}
use Rattle.aim_grid.specs.declared.seats.Seats.{Seats}
use Rattle.aim_grid.specs.Making.{Seat, AreOthers, held, Keeps, AllKeep}
use Rattle.aim_grid.specs.Closing.{Gone, seat_gone, held_after, logs_gone, Gives, AllGive}
use Rattle.aim_grid.proofs.Places.{AreDistinct, each_weaker, others_left, others_right}
use Rattle.aim_grid.proofs.Rides.{gone_append}

-- whether the leg is the vehicle's at the crossing
abbrev is_at : ℕ → ℕ → Gone → Bool
is_at v c g = g.vehicle == v && g.crossing == c

not_both : (v c : ℕ) (g : Gone) → is_at v c g ≡ false → g.vehicle ≡ v → g.crossing ≢ c
not_both v c g fails ev ec =
    elim (and_cases (g.vehicle == v) (g.crossing == c) fails) [ inl a ↦ absurd (eqb-false g.vehicle v a ev) | inr b ↦ absurd (eqb-false g.crossing c b ec) ]

-- none of the legs was the vehicle's there, and what was held stands; or the last of them gave its pass
pub record IsGiven (v c : ℕ) (P : Gone → Type 0) (o : Option AgentPass) : Type 0 where
  pub leg : Gone
  pub known : P leg
  pub vehicle : leg.vehicle ≡ v
  pub crossing : leg.crossing ≡ c
  pub given : o ≡ Some leg.pass

pub held_cases : (v c : ℕ) (P : Gone → Type 0) (gs : List Gone) (o : Option AgentPass) → AllByRecursion P gs
    → (AreOthers v c (map seat_gone gs) × (held_after v c gs o ≡ o)) ⊎ IsGiven v c P (held_after v c gs o)
held_cases v c P [] o all = inl (tt, refl)
held_cases v c P (g ∷ gs) o all = go (is_at v c g) refl (λ q. held_cases v c P gs q all.1)
  where
    go : (b : Bool) → is_at v c g ≡ b → ((q : Option AgentPass) → (AreOthers v c (map seat_gone gs) × (held_after v c gs q ≡ q)) ⊎ IsGiven v c P (held_after v c gs q))
        → (AreOthers v c (map seat_gone (g ∷ gs)) × (held_after v c gs (if b then Some g.pass else o) ≡ o)) ⊎ IsGiven v c P (held_after v c gs (if b then Some g.pass else o))
    go true e rest =
        let p = and_parts (g.vehicle == v) (g.crossing == c) e in
        elim (rest (Some g.pass)) [
          | inl h ↦ inr (record { leg = g; known = all.0; vehicle = eqb-true g.vehicle v p.0; crossing = eqb-true g.crossing c p.1; given = h.1 })
          | inr h ↦ inr h
        ]
    go false e rest = elim (rest o) [ inl h ↦ inl ((not_both v c g e, h.0), h.1) | inr h ↦ inr h ]

held_others : (v c : ℕ) (gs : List Gone) (o : Option AgentPass) → AreOthers v c (map seat_gone gs) → held_after v c gs o ≡ o
held_others v c [] o h = refl
held_others v c (g ∷ gs) o h = go (is_at v c g) refl (λ q. held_others v c gs q h.1)
  where
    go : (b : Bool) → is_at v c g ≡ b → ((q : Option AgentPass) → held_after v c gs q ≡ q) → held_after v c gs (if b then Some g.pass else o) ≡ o
    go true e rest = let p = and_parts (g.vehicle == v) (g.crossing == c) e in absurd (h.0 (eqb-true g.vehicle v p.0) (eqb-true g.crossing c p.1))
    go false e rest = rest o

-- where no two legs have the same seat, each leg's own pass is held at its seat
pub held_each : (gs : List Gone) → AreDistinct (map seat_gone gs) → AllByRecursion (λ (g : Gone). (o : Option AgentPass) → held_after g.vehicle g.crossing gs o ≡ Some g.pass) gs
held_each [] d = tt
held_each (g ∷ gs) d = (
  λ o. ap (λ b. held_after g.vehicle g.crossing gs (if b then Some g.pass else o)) (and_from (g.vehicle == g.vehicle) (g.crossing == g.crossing) (eq-eqb g.vehicle g.vehicle refl) (eq-eqb g.crossing g.crossing refl))
      ∙ held_others g.vehicle g.crossing gs (Some g.pass) d.0,
  each_weaker (λ (h : Gone). (o : Option AgentPass) → held_after h.vehicle h.crossing gs o ≡ Some h.pass) (λ (h : Gone). (o : Option AgentPass) → held_after h.vehicle h.crossing (g ∷ gs) o ≡ Some h.pass) gs
      (λ h is o. is (if is_at h.vehicle h.crossing g then Some g.pass else o)) (held_each gs d.1),
)

held_append : (v c : ℕ) (gs hs : List Gone) (o : Option AgentPass) → held_after v c (gs ++ hs) o ≡ held_after v c hs (held_after v c gs o)
held_append v c [] hs o = refl
held_append v c (g ∷ gs) hs o = held_append v c gs hs (if is_at v c g then Some g.pass else o)

-- one after another

keeps_then : (c : ℕ) (xs ys : List Seat) (s t u : Seats) → Keeps c xs s t → Keeps c ys t u → Keeps c (xs ++ ys) s u
keeps_then c xs ys s t u p q = record {
  many = q.many ∙ p.many;
  operator = q.operator ∙ p.operator;
  logs = q.logs ∙ p.logs;
  others = λ v h. q.others v (others_right v c xs ys h) ∙ p.others v (others_left v c xs ys h);
}

-- there is an element where another list of that length has one
pub same_place : {A B : Type 0} (xs : List A) (ys : List B) (k : ℕ) (x : A) → slice_get xs k ≡ Some x → length ys ≡ length xs → (d : B) → slice_get ys k ≡ Some (get_or ys k d)
same_place xs ys k x at n d = let l : k < length xs = slice_get_within xs k x at in slice_get-get_or ys k d (omega arith)

pub none_kept : (seats : List Seats) → AllKeep [] seats seats
none_kept seats = record {
  count = refl;
  each = λ c s t a b. subst (λ (u : Seats). Keeps c [] s u) (some_same s t (sym a ∙ b)) (record { many = refl; operator = refl; logs = refl; others = λ v h. refl });
}
  where
    some_same : (s t : Seats) → Some s ≡ Some t → s ≡ t
    some_same s t e = cc e

pub all_keep_then : (xs ys : List Seat) (ss ts us : List Seats) → AllKeep xs ss ts → AllKeep ys ts us → AllKeep (xs ++ ys) ss us
all_keep_then xs ys ss ts us p q = record {
  count = q.count ∙ p.count;
  each = λ c s u a b. let m = same_place ss ts c s a p.count s in keeps_then c xs ys s (get_or ts c s) u (p.each c s (get_or ts c s) a m) (q.each c (get_or ts c s) u m b);
}

gives_then : (c : ℕ) (gs hs : List Gone) (s t u : Seats) → Gives c gs s t → Gives c hs t u → Gives c (gs ++ hs) s u
gives_then c gs hs s t u p q = record {
  many = q.many ∙ p.many;
  operator = q.operator ∙ p.operator;
  logs = q.logs ∙ ap (λ l. l ++ logs_gone c hs) p.logs ∙ append_assoc (map log_of s.logs.items) (logs_gone c gs) (logs_gone c hs) ∙ ap (λ l. map log_of s.logs.items ++ l) (sym (gone_append c gs hs));
  after = λ v lt. q.after v (subst (λ n. v < n) (sym p.many) lt) ∙ ap (λ o. held_after v c hs o) (p.after v lt) ∙ sym (held_append v c gs hs (held s v));
}

pub none_given : (seats : List Seats) → AllGive [] seats seats
none_given seats = record {
  count = refl;
  each = λ c s t a b. subst (λ (u : Seats). Gives c [] s u) (some_same s t (sym a ∙ b)) (record { many = refl; operator = refl; logs = sym (append-nil (map log_of s.logs.items)); after = λ v h. refl });
}
  where
    some_same : (s t : Seats) → Some s ≡ Some t → s ≡ t
    some_same s t e = cc e

pub all_give_then : (gs hs : List Gone) (ss ts us : List Seats) → AllGive gs ss ts → AllGive hs ts us → AllGive (gs ++ hs) ss us
all_give_then gs hs ss ts us p q = record {
  count = q.count ∙ p.count;
  each = λ c s u a b. let m = same_place ss ts c s a p.count s in gives_then c gs hs s (get_or ts c s) u (p.each c s (get_or ts c s) a m) (q.each c (get_or ts c s) u m b);
}
