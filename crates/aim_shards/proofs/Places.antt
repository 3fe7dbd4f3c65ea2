-- What one quadrant's entries tell of the claims that stand.
use Rattle.std.proofs.Common.{◌≡◌, ℕ, suc, ◌==◌, Bool, true, false, ◌&&◌, ◌||◌, not, List, [], ◌∷◌, ◌++◌, refl, sym, ap, ◌∙◌}
use Rattle.std.specs.Prelude.{if◌then◌else◌, filter, map}
use Rattle.std.specs.List.{list_any}
use Rattle.std.proofs.lemmas.List.{append-nil}
use Rattle.std.proofs.lemmas.List.Elements.{filter-append}
use Rattle.aim_shards.specs.declared.claims.ClaimAct.{ClaimAct}
use Rattle.aim_shards.specs.declared.claims.ClaimAct.TheVariants as act
use Rattle.aim_shards.specs.declared.claims.ClaimEntry.{ClaimEntry}
use Rattle.aim_shards.specs.declared.view.QuadrantTurn.{QuadrantTurn}
use Rattle.aim_shards.specs.Sets.{Quarters, set_at, has_cells, is_empty, lies_in, meets_in, touched}
use Rattle.aim_shards.specs.Claims.{claimed, is_in, is_free_in, after_act, stood, stands, answer, touches, touching, of_quadrant, are_free}
use Rattle.aim_shards.specs.Sums.{Every}
use Rattle.aim_shards.proofs.Sharing.{any_none, met_in, unmet_in}

module _ {A : Type 0} where
  -- two filters, in either order
  pub filters_turn : (p r : A → Bool) (xs : List A) → filter p (filter r xs) ≡ filter r (filter p xs)
  filters_turn p r [] = refl
  filters_turn p r (x ∷ xs) = at (p x) (r x) refl refl (filters_turn p r xs)
    where
      at : (b c : Bool) → p x ≡ b → r x ≡ c → filter p (filter r xs) ≡ filter r (filter p xs) → filter p (filter r (x ∷ xs)) ≡ filter r (filter p (x ∷ xs))
      at true true e f h = rw (e, f) (rw e (ap (λ l. x ∷ l) h))
      at true false e f h = rw (e, f) h
      at false true e f h = rw (e, f) (rw e h)
      at false false e f h = rw (e, f) h

  -- what the second filter takes out, the first would not have kept
  pub filter_in_vain : (p r : A → Bool) (xs : List A) → list_any (λ x. p x && r x) xs ≡ false → filter r (filter (λ x. not (p x)) xs) ≡ filter r xs
  filter_in_vain p r [] h = refl
  filter_in_vain p r (x ∷ xs) h = at (p x) (r x) refl refl (λ g. filter_in_vain p r xs g)
    where
      at : (b c : Bool) → p x ≡ b → r x ≡ c → (list_any (λ y. p y && r y) xs ≡ false → filter r (filter (λ y. not (p y)) xs) ≡ filter r xs) → filter r (filter (λ y. not (p y)) (x ∷ xs)) ≡ filter r (x ∷ xs)
      at true true e f g = absurd (differ (rw (e, f) at h))
        where
          differ : true ≡ false → ⊥
          differ q = cc
      at true false e f g = rw (e, f) (g (rw (e, f) at h))
      at false true e f g = rw (e, f) (ap (λ l. x ∷ l) (g (rw e at h)))
      at false false e f g = rw (e, f) (g (rw e at h))

  -- a test that finds only what the filter keeps
  any_filter : (p r : A → Bool) (xs : List A) → ((x : A) → p x ≡ true → r x ≡ true) → list_any p (filter r xs) ≡ list_any p xs
  any_filter p r [] h = refl
  any_filter p r (x ∷ xs) h = at (p x) (r x) refl refl (any_filter p r xs h)
    where
      at : (b c : Bool) → p x ≡ b → r x ≡ c → list_any p (filter r xs) ≡ list_any p xs → list_any p (filter r (x ∷ xs)) ≡ list_any p (x ∷ xs)
      at true true e f g = rw f (rw e refl)
      at true false e f g = absurd (differ (sym (h x e) ∙ f))
        where
          differ : true ≡ false → ⊥
          differ q = cc
      at false true e f g = rw f (rw e g)
      at false false e f g = rw f (rw e g)

any_or : {A : Type 0} (p r : A → Bool) (xs : List A) → list_any (λ x. p x || r x) xs ≡ (list_any p xs || list_any r xs)
any_or p r [] = refl
any_or p r (x ∷ xs) = ap (λ c. (p x || r x) || c) (any_or p r xs) ∙ mixed (p x) (r x) (list_any p xs) (list_any r xs)
  where
    mixed : (a b c d : Bool) → ((a || b) || (c || d)) ≡ ((a || c) || (b || d))
    mixed true b c d = refl
    mixed false true true d = refl
    mixed false true false d = refl
    mixed false false c d = refl

module _ (sets : List Quarters) where
  -- an act that touches the quadrant does the same to the quadrant's claims
  act_in : (q : ℕ) (standing : List ClaimEntry) (e : ClaimEntry) (a : ClaimAct) (b : Bool) → e.act ≡ a → touches sets standing a b q ≡ true → after_act (filter (is_in sets q) standing) e a b ≡ filter (is_in sets q) (after_act standing e a b)
  act_in q standing e (act.Claim k) true same h = sym (filter-append (is_in sets q) standing (e ∷ []) ∙ ap (λ (c : Bool). filter (is_in sets q) standing ++ (if c then e ∷ [] else [])) (ap (λ (x : ClaimAct). lies_in (claimed sets x) q) same ∙ h))
  act_in q standing e (act.Free t) true same h = filters_turn (λ f. not (f.ticket == t)) (is_in sets q) standing
  act_in q standing e (act.Claim k) false same h = refl
  act_in q standing e (act.Free t) false same h = refl

  -- an act that does not touch it does nothing to them
  act_out : (q : ℕ) (standing : List ClaimEntry) (e : ClaimEntry) (a : ClaimAct) (b : Bool) → e.act ≡ a → touches sets standing a b q ≡ false → filter (is_in sets q) (after_act standing e a b) ≡ filter (is_in sets q) standing
  act_out q standing e (act.Claim k) true same h = filter-append (is_in sets q) standing (e ∷ []) ∙ (ap (λ (c : Bool). filter (is_in sets q) standing ++ (if c then e ∷ [] else [])) (ap (λ (x : ClaimAct). lies_in (claimed sets x) q) same ∙ h) ∙ append-nil (filter (is_in sets q) standing))
  act_out q standing e (act.Free t) true same h = filter_in_vain (λ f. f.ticket == t) (is_in sets q) standing h
  act_out q standing e (act.Claim k) false same h = refl
  act_out q standing e (act.Free t) false same h = refl

  stands_from : (q : ℕ) (standing log : List ClaimEntry) → stands (filter (is_in sets q) standing) (touching sets q standing log) ≡ filter (is_in sets q) (stands standing log)
  stands_from q standing [] = refl
  stands_from q standing (e ∷ es) = at (touches sets standing e.act e.yes q) refl (stands_from q (stood standing e) es)
    where
      at : (b : Bool) → touches sets standing e.act e.yes q ≡ b → stands (filter (is_in sets q) (stood standing e)) (touching sets q (stood standing e) es) ≡ filter (is_in sets q) (stands (stood standing e) es)
          → stands (filter (is_in sets q) standing) (if b then e ∷ touching sets q (stood standing e) es else touching sets q (stood standing e) es) ≡ filter (is_in sets q) (stands (stood standing e) es)
      at true h more = ap (λ l. stands l (touching sets q (stood standing e) es)) (act_in q standing e e.act e.yes refl h) ∙ more
      at false h more = ap (λ l. stands l (touching sets q (stood standing e) es)) (sym (act_out q standing e e.act e.yes refl h)) ∙ more

  -- the claims that stand by a quadrant's entries are those of the whole history that have to do with the quadrant
  pub stands_of : (q : ℕ) (log : List ClaimEntry) → stands [] (of_quadrant sets q log) ≡ filter (is_in sets q) (stands [] log)
  stands_of q log = stands_from q [] log

  -- whether the set meet a standing claim in the quadrant
  abbrev meets_some : Quarters → List ClaimEntry → ℕ → Bool
  meets_some set standing q = list_any (λ f. meets_in set q (claimed sets f.act)) standing

  free_by : (set : Quarters) (q : ℕ) (log : List ClaimEntry) → is_free_in sets set q (of_quadrant sets q log) ≡ not (meets_some set (stands [] log) q)
  free_by set q log = ap (λ l. not (meets_some set l q)) (stands_of q log) ∙ ap not (any_filter (λ f. meets_in set q (claimed sets f.act)) (is_in sets q) (stands [] log) (λ f h. met_in set q (claimed sets f.act) h))

  -- free in the quadrants of the list
  abbrev free_over : Quarters → List ClaimEntry → List ℕ → Bool
  free_over set standing [] = true
  free_over set standing (q ∷ qs) = free_over set standing qs && not (meets_some set standing q)

  free_turns : (set : Quarters) (log : List ClaimEntry) (hs : List QuadrantTurn) → Every (λ t. t.seen ≡ of_quadrant sets t.quadrant log) hs → are_free sets set hs ≡ free_over set (stands [] log) (map (λ t. t.quadrant) hs)
  free_turns set log [] all = refl
  free_turns set log (t ∷ ts) all = λ i. free_turns set log ts all.1 i && (ap (is_free_in sets set t.quadrant) all.0 ∙ free_by set t.quadrant log) i

  -- in the quadrants that the set touch, or in all
  free_below : (set : Quarters) (standing : List ClaimEntry) (q : ℕ) → free_over set standing (touched set (suc q)) ≡ (free_over set standing (touched set q) && not (meets_some set standing q))
  free_below set standing q = at (lies_in set q) refl
    where
      left : (a b : Bool) → (a || b) ≡ false → a ≡ false
      left true b h = absurd cc
      left false b h = refl

      whole : (a : Bool) → a ≡ (a && not false)
      whole true = refl
      whole false = refl

      at : (b : Bool) → lies_in set q ≡ b → free_over set standing (if b then q ∷ touched set q else touched set q) ≡ (free_over set standing (touched set q) && not (meets_some set standing q))
      at true h = refl
      at false h = whole (free_over set standing (touched set q)) ∙ ap (λ c. free_over set standing (touched set q) && not c) (sym (any_none (λ (f : ClaimEntry). meets_in set q (claimed sets f.act)) standing (λ f. unmet_in set q (claimed sets f.act) (left (has_cells set q) (is_empty set && (q == 0)) h))))

  -- the turns tell whether the set are free
  pub answer_of : (k n : ℕ) (log : List ClaimEntry) (hs : List QuadrantTurn) → map (λ t. t.quadrant) hs ≡ touched (set_at sets k) 4 → Every (λ t. t.seen ≡ of_quadrant sets t.quadrant log) hs → are_free sets (set_at sets k) hs ≡ answer sets (stands [] log) n (act.Claim k)
  answer_of k n log hs quadrants all =
      let set : Quarters = set_at sets k in
      let s : List ClaimEntry = stands [] log in
      let m : ℕ → Bool = meets_some set s in
      let p : ℕ → ClaimEntry → Bool = λ q f. meets_in set q (claimed sets f.act) in
      free_turns set log hs all
      ∙ (ap (free_over set s) quadrants
      ∙ (free_below set s 3 ∙ (ap (λ c. c && not (m 3)) (free_below set s 2 ∙ ap (λ c. c && not (m 2)) (free_below set s 1 ∙ ap (λ c. c && not (m 1)) (free_below set s 0)))
      ∙ (demorgan (m 0) (m 1) (m 2) (m 3)
      ∙ ap not (sym (any_or (p 0) (λ f. p 1 f || (p 2 f || p 3 f)) s ∙ ap (λ c. m 0 || c) (any_or (p 1) (λ f. p 2 f || p 3 f) s ∙ ap (λ c. m 1 || c) (any_or (p 2) (p 3) s))))))))
    where
      demorgan : (a b c d : Bool) → ((((true && not a) && not b) && not c) && not d) ≡ not (a || (b || (c || d)))
      demorgan true b c d = refl
      demorgan false true c d = refl
      demorgan false false true d = refl
      demorgan false false false d = refl
