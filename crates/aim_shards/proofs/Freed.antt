-- What a freeing of a caller's own claim frees.
use Rattle.std.proofs.Common.{◌≡◌, ℕ, zero, suc, ◌<◌, ◌==◌, Bool, true, false, ◌&&◌, ◌||◌, not, List, [], ◌∷◌, length, take, get_or, refl, sym, ap, ◌∙◌, arith}
use Rattle.std.proofs.lemmas.Bool.{eq-eqb}
use Rattle.aim_shards.specs.declared.claims.ClaimAct.TheVariants as act
use Rattle.aim_shards.specs.declared.claims.ClaimEntry.{ClaimEntry}
use Rattle.aim_shards.specs.Sets.{Quarters, SameParts, is_some, lies_in}
use Rattle.aim_shards.specs.Claims.{claimed, stands, has_ticket, freed, Moves}
use Rattle.aim_shards.proofs.Sharing.{differ}

-- the first with the ticket
pub find_at : (sets : List Quarters) (t : ℕ) (s : List ClaimEntry) (i : ℕ) (d : ClaimEntry) → i < length s → has_ticket t (take i s) ≡ false → (get_or s i d).ticket ≡ t → (has_ticket t s ≡ true) × (freed sets t s ≡ claimed sets (get_or s i d).act)
find_at sets t [] i d lt h e = absurd (omega arith)
find_at sets t (f ∷ fs) zero d lt h e = let b : (f.ticket == t) ≡ true = eq-eqb f.ticket t e in (rw b refl, rw b refl)
find_at sets t (f ∷ fs) (suc i) d lt h e = at (f.ticket == t) refl (λ g. find_at sets t fs i d (omega arith) g e)
  where
    at : (b : Bool) → (f.ticket == t) ≡ b → (has_ticket t (take i fs) ≡ false → (has_ticket t fs ≡ true) × (freed sets t fs ≡ claimed sets (get_or fs i d).act)) → (has_ticket t (f ∷ fs) ≡ true) × (freed sets t (f ∷ fs) ≡ claimed sets (get_or fs i d).act)
    at true b g = absurd (differ (rw b at h))
    at false b g = let r = g (rw b at h) in (rw b r.0, rw b r.1)

pub freed_none : (sets : List Quarters) (t : ℕ) (s : List ClaimEntry) → has_ticket t s ≡ false → freed sets t s ≡ []
freed_none sets t [] h = refl
freed_none sets t (f ∷ fs) h = at (f.ticket == t) refl (λ g. freed_none sets t fs g)
  where
    at : (b : Bool) → (f.ticket == t) ≡ b → (has_ticket t fs ≡ false → freed sets t fs ≡ []) → freed sets t (f ∷ fs) ≡ []
    at true e g = absurd (differ (rw e at h))
    at false e g = rw e (g (rw e at h))

pub look_at : (sets : List Quarters) (t i : ℕ) (s s' : List ClaimEntry) (d : ClaimEntry) (set : Quarters) → s ≡ s' → i < length s → has_ticket t (take i s) ≡ false → (get_or s i d).ticket ≡ t → set ≡ claimed sets (get_or s i d).act → set ≡ freed sets t s'
look_at sets t i s s' d set same lt h e is' = is' ∙ (sym (find_at sets t s i d lt h e).1 ∙ ap (freed sets t) same)

take_whole : (i : ℕ) (s : List ClaimEntry) → length s < suc i → take i s ≡ s
take_whole zero [] le = refl
take_whole zero (f ∷ fs) le = absurd (omega arith)
take_whole (suc i) [] le = refl
take_whole (suc i) (f ∷ fs) le = ap (λ l. f ∷ l) (take_whole i fs (omega arith))

pub look_past : (sets : List Quarters) (t i : ℕ) (s s' : List ClaimEntry) → s ≡ s' → length s < suc i → has_ticket t (take i s) ≡ false → [] ≡ freed sets t s'
look_past sets t i s s' same le h = sym (freed_none sets t s' (sym (ap (has_ticket t) (take_whole i s le ∙ same)) ∙ h))

-- sets with the same parts
pub lies_same : (a b : Quarters) (q : ℕ) → SameParts a b → lies_in a q ≡ lies_in b q
lies_same a b q same = λ i. is_some (same q i) || (not (is_some (same 0 i) || is_some (same 1 i) || is_some (same 2 i) || is_some (same 3 i)) && (q == 0))

pub moves_free : (sets : List Quarters) (set : Quarters) (mine : List ClaimEntry) (t : ℕ) (granted : Bool) → SameParts set (freed sets t (stands [] mine)) → Moves sets set mine (act.Free t) granted
moves_free sets set mine t true same = same
moves_free sets set mine t false same = tt
