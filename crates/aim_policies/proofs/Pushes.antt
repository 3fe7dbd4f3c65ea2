-- A change more at the end of a timeline.
use Rattle.std.proofs.Common.{◌≡◌, ℕ, ◌-◌, ◌<◌, ◌≤◌, List, length, map, get_or, arith, ◌∙◌, ap}
use Rattle.std.proofs.lemmas.List.{length-map, get_or-map}
use Rattle.aim_rules.specs.Timeline.{InForce}
use Rattle.aim_policies.specs.declared.timelines.Change.{Change}
use Rattle.aim_policies.specs.Changes.{latest, start}
use Rattle.aim_policies.specs.Stored.{change_of}

-- the last of the stored changes is in force from no later step
pub last_from : (cs : List Change) (from : ℕ) (d : Change) → 0 < length cs → latest (map change_of cs) ≤ from → (get_or cs (length cs - 1) d).from ≤ from
last_from cs from d some h =
    let here : get_or (map change_of cs) (length (map change_of cs) - 1) start ≡ change_of (get_or cs (length cs - 1) d)
    = ap (λ n. get_or (map change_of cs) (n - 1) start) (length-map cs change_of) ∙ get_or-map change_of cs (length cs - 1) d start (omega arith) in
    let from : (get_or (map change_of cs) (length (map change_of cs) - 1) start).from ≡ (get_or cs (length cs - 1) d).from = ap (λ (f : InForce). f.from) here in
    omega (arith, h)
