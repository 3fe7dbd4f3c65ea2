-- Lists that are made one by one.
use Rattle.std.proofs.Common.{◌≡◌, ◌∙◌, sym, ℕ, ◌+◌, ◌-◌, ◌<◌, List, [], ◌∷◌, ◌++◌, suc, map, filter, if◌then◌else◌, refl, inl, inr, append_assoc, append-nil, arith}
use Rattle.std.proofs.lemmas.Bool.{cases_Bool}
use Rattle.std.specs.List.{range_with_len}
use Rattle.serde_json.specs.Data.{Data}
use Rattle.aim_messages.specs.Lines.{has_lane}
use Rattle.aim_json.specs.Members.{count}

-- the lanes from one on: that one if it is in the set, and then the lanes from the next on
pub lanes_next : (made : List Data) (lanes lane : ℕ) → lane < 16
    → (if has_lane lanes lane then made ++ count lane ∷ [] else made) ++ map count (filter (has_lane lanes) (range_with_len (lane + 1) (16 - (lane + 1))))
    ≡ made ++ map count (filter (has_lane lanes) (range_with_len lane (16 - lane)))
lanes_next made lanes lane below =
    let more : 16 - lane ≡ suc (16 - (lane + 1)) = omega arith in
    elim (cases_Bool (has_lane lanes lane)) [
      | inl is ↦ rw (more, is) (append_assoc made (count lane ∷ []) _)
      | inr not ↦ rw (more, not) refl
    ]

-- no lane is left
pub lanes_end : (made all : List Data) (lanes : ℕ) → made ++ map count (filter (has_lane lanes) (range_with_len 16 (16 - 16))) ≡ all → made ≡ all
lanes_end made all lanes h = sym (append-nil made) ∙ h
