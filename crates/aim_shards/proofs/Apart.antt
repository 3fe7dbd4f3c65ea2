-- The claims that stand have no cell in common.
use Rattle.std.proofs.Common.{◌≡◌, ℕ, suc, ◌==◌, Bool, true, false, ◌||◌, not, List, [], ◌∷◌, ◌++◌, refl, sym, ap, ◌∙◌, subst}
use Rattle.std.specs.Prelude.{if◌then◌else◌, filter}
use Rattle.std.specs.List.{list_any}
use Rattle.std.proofs.lemmas.List.Folds.{list_any-append}
use Rattle.aim_shards.specs.declared.claims.ClaimAct.{ClaimAct}
use Rattle.aim_shards.specs.declared.claims.ClaimAct.TheVariants as act
use Rattle.aim_shards.specs.declared.claims.ClaimEntry.{ClaimEntry}
use Rattle.aim_shards.specs.Sets.{Quarters, set_at, meets}
use Rattle.aim_shards.specs.Claims.{claimed, is_in, after_act, stood, stands, answer, IsLegalFrom, IsLegal, of_quadrant, AreApart}
use Rattle.aim_shards.proofs.Sharing.{meets_turned}
use Rattle.aim_shards.proofs.Places.{stands_of}

none_kept : (p r : ClaimEntry → Bool) (s : List ClaimEntry) → list_any r s ≡ false → list_any r (filter p s) ≡ false
none_kept p r [] h = refl
none_kept p r (f ∷ fs) h = at (r f) (p f) refl refl (λ g. none_kept p r fs g)
  where
    differ : true ≡ false → ⊥
    differ e = cc

    at : (b c : Bool) → r f ≡ b → p f ≡ c → (list_any r fs ≡ false → list_any r (filter p fs) ≡ false) → list_any r (filter p (f ∷ fs)) ≡ false
    at true c e d g = absurd (differ (rw e at h))
    at false true e d g = rw d (rw e (g (rw e at h)))
    at false false e d g = rw d (g (rw e at h))

module _ (sets : List Quarters) where
  pub apart_filter : (p : ClaimEntry → Bool) (s : List ClaimEntry) → AreApart sets s → AreApart sets (filter p s)
  apart_filter p [] a = tt
  apart_filter p (f ∷ fs) a = at (p f) (none_kept p (λ g. meets (claimed sets f.act) (claimed sets g.act)) fs a.0) (apart_filter p fs a.1)
    where
      at : (b : Bool) → list_any (λ g. meets (claimed sets f.act) (claimed sets g.act)) (filter p fs) ≡ false → AreApart sets (filter p fs) → AreApart sets (if b then f ∷ filter p fs else filter p fs)
      at true h more = (h, more)
      at false h more = more

  apart_more : (s : List ClaimEntry) (e : ClaimEntry) → AreApart sets s → list_any (λ f. meets (claimed sets e.act) (claimed sets f.act)) s ≡ false → AreApart sets (s ++ e ∷ [])
  apart_more [] e a h = (refl, tt)
  apart_more (f ∷ fs) e a h = (parts (meets (claimed sets e.act) (claimed sets f.act)) (list_any (λ g. meets (claimed sets e.act) (claimed sets g.act)) fs) h, apart_more fs e a.1 (right (meets (claimed sets e.act) (claimed sets f.act)) (list_any (λ g. meets (claimed sets e.act) (claimed sets g.act)) fs) h))
    where
      left : (b c : Bool) → (b || c) ≡ false → b ≡ false
      left true c h = absurd cc
      left false c h = refl

      right : (b c : Bool) → (b || c) ≡ false → c ≡ false
      right true c h = absurd cc
      right false c h = h

      parts : (b c : Bool) → (meets (claimed sets e.act) (claimed sets f.act) || list_any (λ g. meets (claimed sets e.act) (claimed sets g.act)) fs) ≡ false → list_any (λ g. meets (claimed sets f.act) (claimed sets g.act)) (fs ++ e ∷ []) ≡ false
      parts b c h = list_any-append (λ (g : ClaimEntry). meets (claimed sets f.act) (claimed sets g.act)) fs (e ∷ []) ∙ (λ i. a.0 i || (meets_turned (claimed sets f.act) (claimed sets e.act) i || false)) ∙ ap (λ x. false || (x || false)) (left (meets (claimed sets e.act) (claimed sets f.act)) (list_any (λ g. meets (claimed sets e.act) (claimed sets g.act)) fs) h)

  apart_after : (s : List ClaimEntry) (e : ClaimEntry) (a : ClaimAct) (b : Bool) → e.act ≡ a → b ≡ answer sets s e.caller a → AreApart sets s → AreApart sets (after_act s e a b)
  apart_after s e (act.Claim k) true same y d = apart_more s e d (ap (λ (x : ClaimAct). list_any (λ (f : ClaimEntry). meets (claimed sets x) (claimed sets f.act)) s) same ∙ none (list_any (λ (f : ClaimEntry). meets (set_at sets k) (claimed sets f.act)) s) (sym y))
    where
      none : (b : Bool) → not b ≡ true → b ≡ false
      none true h = absurd cc
      none false h = refl
  apart_after s e (act.Free t) true same y d = apart_filter (λ f. not (f.ticket == t)) s d
  apart_after s e (act.Claim k) false same y d = d
  apart_after s e (act.Free t) false same y d = d

  pub apart_stands : (s log : List ClaimEntry) (n : ℕ) → IsLegalFrom sets s n log → AreApart sets s → AreApart sets (stands s log)
  apart_stands s [] n l d = d
  apart_stands s (e ∷ es) n l d = apart_stands (stood s e) es (suc n) l.2 (apart_after s e e.act e.yes refl l.1 d)

  -- so it is with those that one quadrant's entries tell of
  pub apart_of : (q : ℕ) (log : List ClaimEntry) → IsLegal sets log → AreApart sets (stands [] (of_quadrant sets q log))
  apart_of q log l = subst (AreApart sets) (sym (stands_of sets q log)) (apart_filter (is_in sets q) (stands [] log) (apart_stands [] log 0 l tt))
