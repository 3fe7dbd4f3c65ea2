-- The plans that are drawn, one by one.
use Rattle.std.proofs.Common.{◌≡◌, ℕ, suc, ◌+◌, ◌-◌, ◌<◌, List, [], ◌∷◌, ◌++◌, map, filter_map, Some, refl, sym, ◌∙◌, ap, arith, append_assoc}
use Rattle.std.specs.List.{cons_option}
use Rattle.rand_pcg.specs.Lcg.{Lcg}
use Rattle.aim_drive_script.specs.declared.scripts.Planned.{Planned}
use Rattle.aim_drive_script.specs.Said.{Drive, drive_in}
use Rattle.aim_drive_script.specs.Scripts.{drive_told}
use Rattle.aim_drive_command.specs.Drawn.{after_plan, drawn, plan_lines}

-- the drives of the plans from a vehicle on
abbrev pub drives_from : ℕ → ℕ → Lcg → List Drive
drives_from v n g = filter_map (drive_in []) (plan_lines v n g)

pub no_drives : (v n : ℕ) (g : Lcg) → n ≡ 0 → drives_from v n g ≡ []
unfolding plan_lines
no_drives v n g e = rw e refl

pub next_line : (v n : ℕ) (g : Lcg) → v < n → plan_lines v (n - v) g ≡ drawn v g ∷ plan_lines (v + 1) (n - (v + 1)) (after_plan g)
unfolding plan_lines
next_line v n g lt =
    let e : n - v ≡ suc (n - (v + 1)) = omega (arith, lt) in
    rw e refl

map_one : {X Y : Type 0} (f : X → Y) (xs : List X) (x : X) → map f (xs ++ x ∷ []) ≡ map f xs ++ f x ∷ []
map_one f [] x = refl
map_one f (y ∷ xs) x = ap (λ ys. f y ∷ ys) (map_one f xs x)

-- a plan more
pub one_drawn : (ps : List Planned) (p : Planned) (v n : ℕ) (g h : Lcg) → v < n → Some (drive_told p) ≡ drive_in [] (drawn v g) → h ≡ after_plan g
    → map drive_told (ps ++ p ∷ []) ++ drives_from (v + 1) (n - (v + 1)) h ≡ map drive_told ps ++ drives_from v (n - v) g
one_drawn ps p v n g h lt told after =
    let rest = drives_from (v + 1) (n - (v + 1)) (after_plan g) in
    let next : drives_from v (n - v) g ≡ drive_told p ∷ rest = ap (filter_map (drive_in [])) (next_line v n g lt) ∙ ap (λ o. cons_option o rest) (sym told) in
    ap (λ g. map drive_told (ps ++ p ∷ []) ++ drives_from (v + 1) (n - (v + 1)) g) after
    ∙ ap (λ ds. ds ++ rest) (map_one drive_told ps p)
    ∙ append_assoc (map drive_told ps) (drive_told p ∷ []) rest
    ∙ ap (λ ds. map drive_told ps ++ ds) (sym next)
