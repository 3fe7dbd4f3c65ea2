-- The passes of new shards with a set for each caller.
use Rattle.std.proofs.Common.{◌≡◌, ℕ, zero, suc, ◌<◌, ◌≤◌, List, [], ◌∷◌, ◌++◌, length, map, refl, sym, subst, arith}
use Rattle.std.specs.Prelude.{All}
use Rattle.std.proofs.lemmas.List.Elements.{All-map, All-push}
use Rattle.aim_shards.specs.Models.{IsPassOf, PassModel, ShardsModel, count_up, new_pass}

below : (callers most : ℕ) → callers ≤ most → All (λ n. n < most) (count_up callers)
below zero most le = λ k d lt. absurd (omega (arith, lt))
below (suc n) most le = All-push (λ n. n < most) (count_up n) n (below n most (omega (arith, le))) (omega (arith, le))

pub all_own : (s : ShardsModel) (ps : List PassModel) (callers : ℕ) → ps ≡ map (new_pass s) (count_up callers) → callers ≡ length s.sets → All (λ p. IsPassOf s p × (p.number < length s.sets)) ps
all_own s ps callers is few =
    subst (λ qs. All (λ p. IsPassOf s p × (p.number < length s.sets)) qs) (sym is)
    (All-map (λ p. IsPassOf s p × (p.number < length s.sets)) (new_pass s) (count_up callers) (λ k d lt. (record { table = refl; calls = refl; quarters = refl }, below callers (length s.sets) (omega (arith, few)) k d lt)))
