-- The table of the code has the ways of the layout.
use Rattle.std.proofs.Common.{◌≡◌, ℕ, ◌<◌, map, Option, Some, None, slice_get, get_or, refl, sym, ◌∙◌, ap, option_map}
use Rattle.std.proofs.lemmas.Option.{slice_get-get_or, slice_get-map}
use Rattle.aim_messages.specs.declared.messages.Turn.{Turn}
use Rattle.aim_messages.specs.declared.messages.Turn.TheVariants.{Left}
use Rattle.aim_layout.specs.declared.shapes.Shape.{Shape}
use Rattle.aim_layout.specs.Added.{Added, AddMove}
use Rattle.aim_drive_command.specs.declared.layout.TheConstants.{WAYS}
use Rattle.aim_drive_command.specs.Arms.{moves}
use Rattle.aim_drive_command.specs.Laid.{shape_between, ways}

-- a row of the table
abbrev pub Row : Type 0
Row = ℕ × Turn × (ℕ × ℕ) × Option (ℕ × ℕ) × (ℕ × ℕ) × ℕ

abbrev pub added_by : Row → Added
added_by row = AddMove row.0 row.1 (shape_between row.2 row.3 row.4 row.5)

rows : map added_by WAYS ≡ ways
unfolding ways moves
rows = refl

-- where there is no row
abbrev pub no_row : Row
no_row = (0, Left, (0, 0), None, (0, 0), 0)

pub way_at : (place : ℕ) (s : Shape) → place < 12
    → (let row = get_or WAYS place no_row in s ≡ shape_between row.2 row.3 row.4 row.5) → (let row = get_or WAYS place no_row in slice_get ways place ≡ Some (AddMove row.0 row.1 s))
way_at place s lt is =
    let row = get_or WAYS place no_row in
    sym (ap (λ xs. slice_get xs place) rows) ∙ slice_get-map added_by WAYS place ∙ ap (option_map added_by) (slice_get-get_or WAYS place no_row lt) ∙ ap (λ t. Some (AddMove row.0 row.1 t)) (sym is)
