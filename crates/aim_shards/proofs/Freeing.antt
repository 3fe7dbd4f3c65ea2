-- Freeings: what a caller's own entries tell of the claims that stand.
use Rattle.std.proofs.Common.{◌≡◌, ◌≢◌, ℕ, zero, suc, ◌<◌, ◌≤◌, ◌==◌, Bool, true, false, ◌&&◌, ◌||◌, not, List, [], ◌∷◌, ◌++◌, refl, sym, ap, ◌∙◌, subst, arith}
use Rattle.std.specs.Prelude.{if◌then◌else◌, filter}
use Rattle.std.specs.List.{list_any}
use Rattle.std.proofs.lemmas.List.{append-nil}
use Rattle.std.proofs.lemmas.List.Elements.{filter-append}
use Rattle.std.proofs.lemmas.List.Folds.{list_any-append}
use Rattle.std.proofs.lemmas.Bool.{eqb-true, eqb-false, or_parts, or_from}
use Rattle.std.proofs.lemmas.Bool.Decides.{nat_tests}
use Rattle.aim_shards.specs.declared.claims.ClaimAct.{ClaimAct}
use Rattle.aim_shards.specs.declared.claims.ClaimAct.TheVariants as act
use Rattle.aim_shards.specs.declared.claims.ClaimEntry.{ClaimEntry}
use Rattle.aim_sheets.specs.declared.spans.Span.{Span}
use Rattle.aim_geometry.specs.Cells.{Cell}
use Rattle.aim_sheets.specs.Spans.{in_spans}
use Rattle.aim_shards.specs.Sets.{Quarters, part, SameParts, lies_in, spans_meet, meets_in, meets}
use Rattle.aim_shards.specs.Claims.{claimed, is_in, covers, after_act, stood, stands, answer, touches, IsLegalFrom, IsLegal, has_ticket, freed, entries_of, of_quadrant, AreApart, changed, Moves, Changes}
use Rattle.aim_shards.specs.Sums.{total, is}
use Rattle.aim_shards.proofs.Totals.{total-append, is_self, is_none}
use Rattle.aim_shards.proofs.Places.{filters_turn, filter_in_vain, stands_of}
use Rattle.aim_shards.proofs.Apart.{apart_of}
use Rattle.aim_shards.proofs.Sharing.{differ, or_left, or_right, spans_met}

-- how many of these have the ticket
abbrev count : ℕ → List ClaimEntry → ℕ
count t standing = total (λ f. is t f.ticket) standing

any_of_none : (t : ℕ) (p : ClaimEntry → Bool) (s : List ClaimEntry) → count t s ≡ 0 → list_any (λ f. (f.ticket == t) && p f) s ≡ false
any_of_none t p [] z = refl
any_of_none t p (f ∷ fs) z = at (f.ticket == t) refl (λ y. any_of_none t p fs y)
  where
    at : (b : Bool) → (f.ticket == t) ≡ b → (count t fs ≡ 0 → list_any (λ g. (g.ticket == t) && p g) fs ≡ false) → list_any (λ g. (g.ticket == t) && p g) (f ∷ fs) ≡ false
    at true e h = absurd (omega (arith, is_self t f.ticket (eqb-true f.ticket t e)))
    at false e h = rw e (h (omega arith))

and_true : (b : Bool) → (b && true) ≡ b
and_true true = refl
and_true false = refl

-- sets with a cell in common in a quadrant meet
pub meets_by : (a b : Quarters) (q : ℕ) → q < 4 → spans_meet (part a q) (part b q) ≡ true → meets a b ≡ true
meets_by a b zero lt h = or_left (meets_in a 1 b || (meets_in a 2 b || meets_in a 3 b)) h
meets_by a b (suc zero) lt h = or_right (meets_in a 0 b) (or_left (meets_in a 2 b || meets_in a 3 b) h)
meets_by a b (suc (suc zero)) lt h = or_right (meets_in a 0 b) (or_right (meets_in a 1 b) (or_left (meets_in a 3 b) h))
meets_by a b (suc (suc (suc zero))) lt h = or_right (meets_in a 0 b) (or_right (meets_in a 1 b) (or_right (meets_in a 2 b) h))
meets_by a b (suc (suc (suc (suc q)))) lt h = absurd (omega arith)

or_false : (b : Bool) → (b || false) ≡ b
or_false true = refl
or_false false = refl

module _ (sets : List Quarters) where
  -- the one with the ticket passes the test that its cells pass
  unique_any : (t q : ℕ) (s : List ClaimEntry) → count t s ≤ 1 → has_ticket t s ≡ true → list_any (λ f. (f.ticket == t) && is_in sets q f) s ≡ lies_in (freed sets t s) q
  unique_any t q [] le h = absurd (differ (sym h))
  unique_any t q (f ∷ fs) le h = at (f.ticket == t) refl (λ a b. unique_any t q fs a b)
    where
      at : (b : Bool) → (f.ticket == t) ≡ b → (count t fs ≤ 1 → has_ticket t fs ≡ true → list_any (λ g. (g.ticket == t) && is_in sets q g) fs ≡ lies_in (freed sets t fs) q)
          → list_any (λ g. (g.ticket == t) && is_in sets q g) (f ∷ fs) ≡ lies_in (freed sets t (f ∷ fs)) q
      at true e g = rw e (ap (λ b. is_in sets q f || b) (any_of_none t (is_in sets q) fs (omega (arith, is_self t f.ticket (eqb-true f.ticket t e)))) ∙ or_false (is_in sets q f))
      at false e g = rw e (g (omega arith) (rw e at h))

  own_any : (t : ℕ) (p : ClaimEntry → Bool) (s : List ClaimEntry) → list_any (λ f. (f.ticket == t) && p f) s ≡ has_ticket t (filter p s)
  own_any t p [] = refl
  own_any t p (f ∷ fs) = at (f.ticket == t) (p f) refl refl (own_any t p fs)
    where
      at : (b c : Bool) → (f.ticket == t) ≡ b → (p f) ≡ c → list_any (λ g. (g.ticket == t) && p g) fs ≡ has_ticket t (filter p fs)
          → list_any (λ g. (g.ticket == t) && p g) (f ∷ fs) ≡ has_ticket t (filter p (f ∷ fs))
      at true true e d h = rw (e, d) (rw e refl)
      at true false e d h = rw (e, d) h
      at false true e d h = rw (e, d) (rw e h)
      at false false e d h = rw (e, d) h

  has_own : (t : ℕ) (p : ClaimEntry → Bool) (s : List ClaimEntry) → has_ticket t (filter p s) ≡ true → has_ticket t s ≡ true
  has_own t p [] h = h
  has_own t p (f ∷ fs) h = at (f.ticket == t) (p f) refl refl (λ g. has_own t p fs g)
    where
      at : (b c : Bool) → (f.ticket == t) ≡ b → (p f) ≡ c → (has_ticket t (filter p fs) ≡ true → has_ticket t fs ≡ true) → has_ticket t (f ∷ fs) ≡ true
      at true c e d g = rw e refl
      at false true e d g = rw e (g (rw e at (rw d at h)))
      at false false e d g = rw e (g (rw d at h))

  freed_own : (t : ℕ) (p : ClaimEntry → Bool) (s : List ClaimEntry) → count t s ≤ 1 → has_ticket t (filter p s) ≡ true → freed sets t (filter p s) ≡ freed sets t s
  freed_own t p [] le h = refl
  freed_own t p (f ∷ fs) le h = at (f.ticket == t) (p f) refl refl (λ a b. freed_own t p fs a b)
    where
      at : (b c : Bool) → (f.ticket == t) ≡ b → (p f) ≡ c → (count t fs ≤ 1 → has_ticket t (filter p fs) ≡ true → freed sets t (filter p fs) ≡ freed sets t fs)
          → freed sets t (filter p (f ∷ fs)) ≡ freed sets t (f ∷ fs)
      at true true e d g = rw d (rw e refl)
      at true false e d g = absurd (differ (sym (rw d at h) ∙ (sym (own_any t p fs) ∙ any_of_none t p fs (omega (arith, is_self t f.ticket (eqb-true f.ticket t e))))))
      at false true e d g = rw d (rw e (g (omega arith) (rw e at (rw d at h))))
      at false false e d g = rw d (rw e (g (omega arith) (rw d at h)))

  freed_none : (t : ℕ) (s : List ClaimEntry) → has_ticket t s ≡ false → freed sets t s ≡ []
  freed_none t [] h = refl
  freed_none t (f ∷ fs) h = at (f.ticket == t) refl (λ g. freed_none t fs g)
    where
      at : (b : Bool) → (f.ticket == t) ≡ b → (has_ticket t fs ≡ false → freed sets t fs ≡ []) → freed sets t (f ∷ fs) ≡ []
      at true e g = absurd (differ (rw e at h))
      at false e g = rw e (g (rw e at h))

  -- where the one with the ticket is one caller's, it is no other's
  other_any : (t a n : ℕ) (s : List ClaimEntry) → count t s ≤ 1 → a ≢ n → list_any (λ f. (f.ticket == t) && (f.caller == a)) s ≡ true → list_any (λ f. (f.ticket == t) && (f.caller == n)) s ≡ false
  other_any t a n [] le ne h = refl
  other_any t a n (f ∷ fs) le ne h = at (f.ticket == t) (f.caller == a) refl refl (λ x y. other_any t a n fs x ne y)
    where
      not_n : f.caller ≡ a → (f.caller == n) ≡ false
      not_n e = grind (arith, nat_tests)

      at : (b c : Bool) → (f.ticket == t) ≡ b → (f.caller == a) ≡ c → (count t fs ≤ 1 → list_any (λ g. (g.ticket == t) && (g.caller == a)) fs ≡ true → list_any (λ g. (g.ticket == t) && (g.caller == n)) fs ≡ false)
          → list_any (λ g. (g.ticket == t) && (g.caller == n)) (f ∷ fs) ≡ false
      at true true e d g = rw (e, not_n (eqb-true f.caller a d)) (any_of_none t (λ g. g.caller == n) fs (omega (arith, is_self t f.ticket (eqb-true f.ticket t e))))
      at true false e d g = absurd (differ (sym (rw (e, d) at h) ∙ any_of_none t (λ g. g.caller == a) fs (omega (arith, is_self t f.ticket (eqb-true f.ticket t e)))))
      at false c e d g = rw e (g (omega arith) (rw e at h))

  -- the tickets of the claims that stand are all different, and below n
  pub record AreBelow (n : ℕ) (s : List ClaimEntry) : Type 0 where
    pub once : (t : ℕ) → count t s ≤ 1
    pub none_past : (t : ℕ) → n ≤ t → count t s ≡ 0

  count_filter : (t : ℕ) (p : ClaimEntry → Bool) (s : List ClaimEntry) → count t (filter p s) ≤ count t s
  count_filter t p [] = omega arith
  count_filter t p (f ∷ fs) = at (p f) (filter p fs) (count_filter t p fs)
    where
      at : (b : Bool) (l : List ClaimEntry) → count t l ≤ count t fs → count t (if b then f ∷ l else l) ≤ count t (f ∷ fs)
      at true l le = omega arith
      at false l le = omega arith

  below_after : (n : ℕ) (s : List ClaimEntry) (e : ClaimEntry) (a : ClaimAct) (b : Bool) → e.ticket ≡ n → AreBelow n s → AreBelow (suc n) (after_act s e a b)
  below_after n s e (act.Claim k) true is' d = record {
    once = λ t. one t;
    none_past = λ t le. omega (arith, total-append (λ (f : ClaimEntry). is t f.ticket) s (e ∷ []), d.none_past t (omega arith), is_none t e.ticket (λ x. omega (arith, x, is')));
  }
    where
      one : (t : ℕ) → count t (s ++ e ∷ []) ≤ 1
      one t = at (e.ticket == t) refl
        where
          at : (b : Bool) → (e.ticket == t) ≡ b → count t (s ++ e ∷ []) ≤ 1
          at true x = omega (arith, total-append (λ (f : ClaimEntry). is t f.ticket) s (e ∷ []), d.none_past t (omega (arith, is', eqb-true e.ticket t x)), is_self t e.ticket (eqb-true e.ticket t x))
          at false x = omega (arith, total-append (λ (f : ClaimEntry). is t f.ticket) s (e ∷ []), d.once t, is_none t e.ticket (eqb-false e.ticket t x))
  below_after n s e (act.Free t') true is' d = record { once = λ t. omega (arith, count_filter t (λ f. not (f.ticket == t')) s, d.once t); none_past = λ t le. omega (arith, count_filter t (λ f. not (f.ticket == t')) s, d.none_past t (omega arith)) }
  below_after n s e (act.Claim k) false is' d = record { once = d.once; none_past = λ t le. d.none_past t (omega arith) }
  below_after n s e (act.Free t') false is' d = record { once = d.once; none_past = λ t le. d.none_past t (omega arith) }

  once_from : (s log : List ClaimEntry) (n t : ℕ) → IsLegalFrom sets s n log → AreBelow n s → count t (stands s log) ≤ 1
  once_from s [] n t l d = d.once t
  once_from s (e ∷ es) n t l d = once_from (stood s e) es (suc n) t l.2 (below_after n s e e.act e.yes l.0 d)

  own_in : (m : ℕ) (s : List ClaimEntry) (e : ClaimEntry) (a : ClaimAct) (b : Bool) → (e.caller == m) ≡ true → after_act (filter (λ f. f.caller == m) s) e a b ≡ filter (λ f. f.caller == m) (after_act s e a b)
  own_in m s e (act.Claim k) true h = sym (filter-append (λ (f : ClaimEntry). f.caller == m) s (e ∷ []) ∙ ap (λ (c : Bool). filter (λ (f : ClaimEntry). f.caller == m) s ++ (if c then e ∷ [] else [])) h)
  own_in m s e (act.Free t) true h = filters_turn (λ (f : ClaimEntry). not (f.ticket == t)) (λ f. f.caller == m) s
  own_in m s e (act.Claim k) false h = refl
  own_in m s e (act.Free t) false h = refl

  own_out : (m : ℕ) (s : List ClaimEntry) (e : ClaimEntry) (a : ClaimAct) (b : Bool) → ((t : ℕ) → count t s ≤ 1) → b ≡ answer sets s e.caller a → (e.caller == m) ≡ false → filter (λ f. f.caller == m) (after_act s e a b) ≡ filter (λ f. f.caller == m) s
  own_out m s e (act.Claim k) true d y h = filter-append (λ (f : ClaimEntry). f.caller == m) s (e ∷ []) ∙ (ap (λ (c : Bool). filter (λ (f : ClaimEntry). f.caller == m) s ++ (if c then e ∷ [] else [])) h ∙ append-nil (filter (λ (f : ClaimEntry). f.caller == m) s))
  own_out m s e (act.Free t) true d y h = filter_in_vain (λ (f : ClaimEntry). f.ticket == t) (λ f. f.caller == m) s (other_any t e.caller m s (d t) (eqb-false e.caller m h) (sym y))
  own_out m s e (act.Claim k) false d y h = refl
  own_out m s e (act.Free t) false d y h = refl

  own_from : (m : ℕ) (s log : List ClaimEntry) (n : ℕ) → IsLegalFrom sets s n log → AreBelow n s → stands (filter (λ f. f.caller == m) s) (entries_of m log) ≡ filter (λ f. f.caller == m) (stands s log)
  own_from m s [] n l d = refl
  own_from m s (e ∷ es) n l d = at (e.caller == m) refl (own_from m (stood s e) es (suc n) l.2 (below_after n s e e.act e.yes l.0 d))
    where
      at : (b : Bool) → (e.caller == m) ≡ b → stands (filter (λ f. f.caller == m) (stood s e)) (entries_of m es) ≡ filter (λ f. f.caller == m) (stands (stood s e) es)
          → stands (filter (λ f. f.caller == m) s) (if b then e ∷ entries_of m es else entries_of m es) ≡ filter (λ f. f.caller == m) (stands (stood s e) es)
      at true h more = ap (λ l. stands l (entries_of m es)) (own_in m s e e.act e.yes h) ∙ more
      at false h more = ap (λ l. stands l (entries_of m es)) (sym (own_out m s e e.act e.yes d.once l.1 h)) ∙ more

  none_below : AreBelow 0 []
  none_below = record { once = λ t. omega arith; none_past = λ t le. refl }

  -- the claims of a caller that stand, by its own entries
  own_stands : (m : ℕ) (log mine : List ClaimEntry) → IsLegal sets log → entries_of m log ≡ mine → stands [] mine ≡ filter (λ f. f.caller == m) (stands [] log)
  own_stands m log mine l e = ap (stands []) (sym e) ∙ own_from m [] log 0 l none_below

  -- the answer of a freeing
  pub answer_free : (t n : ℕ) (log mine : List ClaimEntry) → IsLegal sets log → entries_of n log ≡ mine → has_ticket t (stands [] mine) ≡ answer sets (stands [] log) n (act.Free t)
  answer_free t n log mine l e = ap (has_ticket t) (own_stands n log mine l e) ∙ sym (own_any t (λ (f : ClaimEntry). f.caller == n) (stands [] log))

  -- the quadrants of a freeing
  pub touches_free : (t n q : ℕ) (log mine : List ClaimEntry) (b : Bool) → IsLegal sets log → entries_of n log ≡ mine → b ≡ has_ticket t (stands [] mine) → touches sets (stands [] log) (act.Free t) b q ≡ lies_in (freed sets t (stands [] mine)) q
  touches_free t n q log mine true l e is' =
      let own = own_stands n log mine l e in
      let has : has_ticket t (filter (λ (f : ClaimEntry). f.caller == n) (stands [] log)) ≡ true = sym (is' ∙ ap (has_ticket t) own) in
      unique_any t q (stands [] log) (once_from [] log 0 t l none_below) (has_own t (λ (f : ClaimEntry). f.caller == n) (stands [] log) has)
      ∙ ap (λ c. lies_in c q) (sym (ap (freed sets t) own ∙ freed_own t (λ (f : ClaimEntry). f.caller == n) (stands [] log) (once_from [] log 0 t l none_below) has))
  touches_free t n q log mine false l e is' = ap (λ c. lies_in c q) (sym (freed_none t (stands [] mine) (sym is')))

  -- what a quadrant's claims cover, without those of a ticket
  none_freed : (t q : ℕ) (s : List ClaimEntry) (cell : Cell) → count t s ≡ 0 → covers sets q (filter (λ f. not (f.ticket == t)) s) cell ≡ covers sets q s cell
  none_freed t q [] cell z = refl
  none_freed t q (f ∷ fs) cell z = at (f.ticket == t) refl (λ y. none_freed t q fs cell y)
    where
      at : (b : Bool) → (f.ticket == t) ≡ b → (count t fs ≡ 0 → covers sets q (filter (λ g. not (g.ticket == t)) fs) cell ≡ covers sets q fs cell) → covers sets q (filter (λ g. not (g.ticket == t)) (f ∷ fs)) cell ≡ covers sets q (f ∷ fs) cell
      at true e h = absurd (omega (arith, is_self t f.ticket (eqb-true f.ticket t e)))
      at false e h = rw e (ap (λ b. in_spans (part (claimed sets f.act) q) cell || b) (h (omega arith)))

  -- claims that meet no other share no cell with it
  unmet_cells : (a b : Quarters) (q : ℕ) (cell : Cell) → q < 4 → meets a b ≡ false → in_spans (part a q) cell ≡ true → in_spans (part b q) cell ≡ false
  unmet_cells a b q cell lt h c = unmet_at (in_spans (part b q) cell) refl
    where
      unmet_at : (x : Bool) → in_spans (part b q) cell ≡ x → in_spans (part b q) cell ≡ false
      unmet_at false e = e
      unmet_at true e = absurd (differ (sym (meets_by a b q lt (spans_met (part a q) (part b q) cell c e)) ∙ h))

  apart_cells : (f : ClaimEntry) (q : ℕ) (fs : List ClaimEntry) (cell : Cell) → q < 4 → list_any (λ g. meets (claimed sets f.act) (claimed sets g.act)) fs ≡ false → in_spans (part (claimed sets f.act) q) cell ≡ true → covers sets q fs cell ≡ false
  apart_cells f q [] cell lt h c = refl
  apart_cells f q (g ∷ gs) cell lt h c =
      let parts = or_parts (meets (claimed sets f.act) (claimed sets g.act)) (list_any (λ g. meets (claimed sets f.act) (claimed sets g.act)) gs) h in
      or_from (in_spans (part (claimed sets g.act) q) cell) (covers sets q gs cell) (unmet_cells (claimed sets f.act) (claimed sets g.act) q cell lt parts.0 c) (apart_cells f q gs cell lt parts.1 c)

  -- what one claim has, its freed cells or not
  freed_cells : (t q : ℕ) (s : List ClaimEntry) (cell : Cell) → has_ticket t s ≡ true → in_spans (part (freed sets t s) q) cell ≡ true → covers sets q s cell ≡ true
  freed_cells t q [] cell h c = absurd (differ (sym h))
  freed_cells t q (f ∷ fs) cell h c = at (f.ticket == t) refl (λ x y. freed_cells t q fs cell x y)
    where
      at : (b : Bool) → (f.ticket == t) ≡ b → (has_ticket t fs ≡ true → in_spans (part (freed sets t fs) q) cell ≡ true → covers sets q fs cell ≡ true) → covers sets q (f ∷ fs) cell ≡ true
      at true e g = or_left (covers sets q fs cell) (rw e at c)
      at false e g = or_right (in_spans (part (claimed sets f.act) q) cell) (g (rw e at h) (rw e at c))

  -- what is covered once the ticket's claim is freed
  covers_freed : (t q : ℕ) (s : List ClaimEntry) (cell : Cell) → q < 4 → AreApart sets s → count t s ≤ 1 → has_ticket t s ≡ true → covers sets q (filter (λ f. not (f.ticket == t)) s) cell ≡ (covers sets q s cell && not (in_spans (part (freed sets t s) q) cell))
  covers_freed t q [] cell lt apart le h = absurd (differ (sym h))
  covers_freed t q (f ∷ fs) cell lt apart le h = at (f.ticket == t) refl (λ x y. covers_freed t q fs cell lt apart.1 x y)
    where
      here : Bool
      here = in_spans (part (claimed sets f.act) q) cell

      gone : (a : Bool) → here ≡ a → covers sets q fs cell ≡ ((here || covers sets q fs cell) && not here)
      gone true e = rw e (apart_cells f q fs cell lt apart.0 e)
      gone false e = rw e (sym (and_true (covers sets q fs cell)))

      stays : (a : Bool) → here ≡ a → has_ticket t fs ≡ true → (here || (covers sets q fs cell && not (in_spans (part (freed sets t fs) q) cell))) ≡ ((here || covers sets q fs cell) && not (in_spans (part (freed sets t fs) q) cell))
      stays false e has = rw e refl
      stays true e has = rw e (sym (free_at (in_spans (part (freed sets t fs) q) cell) refl))
        where
          free_at : (b : Bool) → in_spans (part (freed sets t fs) q) cell ≡ b → not (in_spans (part (freed sets t fs) q) cell) ≡ true
          free_at false d = ap not d
          free_at true d = absurd (differ (sym (freed_cells t q fs cell has d) ∙ apart_cells f q fs cell lt apart.0 e))

      at : (b : Bool) → (f.ticket == t) ≡ b
          → (count t fs ≤ 1 → has_ticket t fs ≡ true → covers sets q (filter (λ g. not (g.ticket == t)) fs) cell ≡ (covers sets q fs cell && not (in_spans (part (freed sets t fs) q) cell)))
          → covers sets q (filter (λ g. not (g.ticket == t)) (f ∷ fs)) cell ≡ (covers sets q (f ∷ fs) cell && not (in_spans (part (freed sets t (f ∷ fs)) q) cell))
      at true e g = rw e (none_freed t q fs cell (omega (arith, is_self t f.ticket (eqb-true f.ticket t e))) ∙ gone here refl)
      at false e g = rw e (ap (λ b. here || b) (g (omega arith) (rw e at h)) ∙ stays here refl (rw e at h))

  changes_free : (set : Quarters) (t q n : ℕ) (log mine seen : List ClaimEntry) → IsLegal sets log → entries_of n log ≡ mine → answer sets (stands [] log) n (act.Free t) ≡ true → SameParts set (freed sets t (stands [] mine)) → q < 4 → touches sets (stands [] log) (act.Free t) true q ≡ true → seen ≡ of_quadrant sets q log → (cell : Cell)
      → covers sets q (filter (λ f. not (f.ticket == t)) (stands [] seen)) cell ≡ (covers sets q (stands [] seen) cell && not (in_spans (part set q) cell))
  changes_free set t q n log mine seen l e ans same lt touch is' cell =
      let s : List ClaimEntry = stands [] log in
      let x : stands [] seen ≡ filter (is_in sets q) s = ap (stands []) is' ∙ stands_of sets q log in
      let once : count t s ≤ 1 = once_from [] log 0 t l none_below in
      let kept : has_ticket t (filter (is_in sets q) s) ≡ true = sym (own_any t (is_in sets q) s) ∙ touch in
      let ours : has_ticket t (filter (λ (f : ClaimEntry). f.caller == n) s) ≡ true = sym (own_any t (λ (f : ClaimEntry). f.caller == n) s) ∙ ans in
      let fx : freed sets t (stands [] seen) ≡ freed sets t s = ap (freed sets t) x ∙ freed_own t (is_in sets q) s once kept in
      let fm : freed sets t (stands [] mine) ≡ freed sets t s = ap (freed sets t) (own_stands n log mine l e) ∙ freed_own t (λ (f : ClaimEntry). f.caller == n) s once ours in
      covers_freed t q (stands [] seen) cell lt (subst (AreApart sets) (ap (stands []) (sym is')) (apart_of sets q log l)) (omega (arith, ap (count t) x, count_filter t (is_in sets q) s, once)) (ap (has_ticket t) x ∙ kept)
      ∙ ap (λ (spans : List Span). covers sets q (stands [] seen) cell && not (in_spans spans cell)) (ap (λ u. part u q) (fx ∙ sym fm) ∙ sym (same q))

  changes_by : (set : Quarters) (q n : ℕ) (log mine seen : List ClaimEntry) (e : ClaimEntry) (a : ClaimAct) (b : Bool) → e.act ≡ a → IsLegal sets log → entries_of n log ≡ mine → b ≡ answer sets (stands [] log) n a → Moves sets set mine a b → q < 4 → touches sets (stands [] log) a b q ≡ true → seen ≡ of_quadrant sets q log → (cell : Cell)
      → covers sets q (after_act (stands [] seen) e a b) cell ≡ changed a b (covers sets q (stands [] seen) cell) (in_spans (part set q) cell)
  changes_by set q n log mine seen e (act.Claim k) true same l m ans moves lt touch is' cell =
      list_any-append (λ (f : ClaimEntry). in_spans (part (claimed sets f.act) q) cell) (stands [] seen) (e ∷ [])
      ∙ ap (λ (b : Bool). covers sets q (stands [] seen) cell || b) (or_false (in_spans (part (claimed sets e.act) q) cell) ∙ ap (λ (spans : List Span). in_spans spans cell) (ap (λ (a : ClaimAct). part (claimed sets a) q) same ∙ sym (moves q)))
  changes_by set q n log mine seen e (act.Free t) true same l m ans moves lt touch is' cell = changes_free set t q n log mine seen l m (sym ans) moves lt touch is' cell
  changes_by set q n log mine seen e (act.Claim k) false same l m ans moves lt touch is' cell = refl
  changes_by set q n log mine seen e (act.Free t) false same l m ans moves lt touch is' cell = refl

  -- what an entry changes in a quadrant that it touches
  pub changes_of : (set : Quarters) (q n : ℕ) (log mine seen : List ClaimEntry) (e : ClaimEntry) → IsLegal sets log → entries_of n log ≡ mine → e.yes ≡ answer sets (stands [] log) n e.act → Moves sets set mine e.act e.yes → q < 4 → touches sets (stands [] log) e.act e.yes q ≡ true → seen ≡ of_quadrant sets q log → Changes sets set q seen e
  changes_of set q n log mine seen e l m ans moves lt touch is' = record { cells = λ cell. changes_by set q n log mine seen e e.act e.yes refl l m ans moves lt touch is' cell }
