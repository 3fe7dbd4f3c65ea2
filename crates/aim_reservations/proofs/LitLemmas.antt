-- Whether some policy has lights, policy by policy.
use Rattle.std.proofs.Common.{◌≡◌, ℕ, Bool, true, false, ◌||◌, List, [], ◌∷◌, take, Some, refl, zero, suc, slice_get}
use Rattle.std.specs.Prelude.{option_map}
use Rattle.std.specs.List.{list_any}
use Rattle.aim_layout.specs.Intersection.{Policy}
use Rattle.aim_layout.specs.Policies.{has_lights}
use Rattle.aim_layout.specs.declared.policies.PolicyKind.{PolicyKind}

pub lit_at : (ps : List Policy) (k : ℕ) (kind : PolicyKind) → option_map (λ p. p.kind) (slice_get ps k) ≡ Some kind → has_lights kind ≡ true → list_any (λ p. has_lights p.kind) ps ≡ true
lit_at [] k kind is lit = absurd (cc)
lit_at (p ∷ ps) zero kind is lit = let e : p.kind ≡ kind = cc in rw (e, lit) refl
lit_at (p ∷ ps) (suc k) kind is lit = go (has_lights p.kind) (lit_at ps k kind is lit)
  where
    go : (b : Bool) → list_any (λ p. has_lights p.kind) ps ≡ true → (b || list_any (λ p. has_lights p.kind) ps) ≡ true
    go true e = refl
    go false e = e

pub dark_more : (ps : List Policy) (k : ℕ) (kind : PolicyKind) → option_map (λ p. p.kind) (slice_get ps k) ≡ Some kind → has_lights kind ≡ false → list_any (λ p. has_lights p.kind) (take k ps) ≡ false → list_any (λ p. has_lights p.kind) (take (suc k) ps) ≡ false
dark_more [] k kind is dark before = absurd (cc)
dark_more (p ∷ ps) zero kind is dark before = let e : p.kind ≡ kind = cc in rw (e, dark) refl
dark_more (p ∷ ps) (suc k) kind is dark before = go (has_lights p.kind) refl before (λ f. dark_more ps k kind is dark f)
  where
    go : (b : Bool) → has_lights p.kind ≡ b → (b || list_any (λ p. has_lights p.kind) (take k ps)) ≡ false → (list_any (λ p. has_lights p.kind) (take k ps) ≡ false → list_any (λ p. has_lights p.kind) (take (suc k) ps) ≡ false) →
        (has_lights p.kind || list_any (λ p. has_lights p.kind) (take (suc k) ps)) ≡ false
    go true e f later = absurd (cc)
    go false e f later = rw e (later f)
