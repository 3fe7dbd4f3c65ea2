-- What is refused of a report of a drive, by what is printed and by its journal.
use Rattle.std.proofs.Common.{◌≡◌, ◌≢◌, inl, inr, ℕ, ◌+◌, ◌≤◌, List, [], ◌∷◌, ◌++◌, length, codes, Some, refl, sym, ap, ◌∙◌, subst, arith}
use Rattle.std.specs.Prelude.{slice_get}
use Rattle.std.specs.Fmt.{digits}
use Rattle.aim_messages.specs.declared.entries.Entry.{Entry}
use Rattle.aim_messages.specs.declared.entries.TheConstants.{OPERATOR}
use Rattle.aim_messages.specs.declared.script.Line.{Line}
use Rattle.aim_geometry.specs.Cells.{Cell}
use Rattle.aim_script.specs.Said.{layout_of}
use Rattle.aim_driver.specs.Fits.{entries_of}
use Rattle.aim_driver.proofs.SmallFacts.{none_some}
use Rattle.aim_drive_script.specs.Said.{orders_of}
use Rattle.aim_report.specs.Apart.{IsOwn, IsPrinted}
use Rattle.aim_report.proofs.Rows.{overlap}
use Rattle.aim_drive_command.specs.Commands.{IsReport}

-- texts, each as a line
abbrev lines : List (List ℕ) → List ℕ
lines [] = []
lines (t ∷ ts) = t ++ 10 ∷ lines ts

-- two lines of one tile that have a step in common
pub one_tile_twice : (workers : ℕ) (script : List Line) → IsReport workers script (lines (codes "tiles 1 2 3 4 6" ∷ codes "tiles 2 2 3 6 8" ∷ [])) → ⊥
one_tile_twice workers script x = overlap x.apart

-- a tile of a vehicle that has no entry
pub a_tile_of_nobody : (workers : ℕ) (script : List Line) (x : IsReport workers script (lines (codes "tiles 1 2 3 4 6" ∷ []))) → x.journal ≡ [] → ⊥
unfolding digits
a_tile_of_nobody workers script x none =
    let c : Cell = record { row = 2; col = 3; step = 6 } in
    let printed : IsPrinted (lines (codes "tiles 1 2 3 4 6" ∷ [])) 1 c = record {
      stay = record { row = 2; col = 3; first = 4; last = 6 };
      vehicle = omega arith;
      values = record { row = omega arith; col = omega arith; first = omega arith; last = omega arith };
      line = inl refl;
      covers = record { row = refl; col = refl; after = omega arith; before = omega arith };
    } in
    let own : IsOwn (layout_of script) [] 1 c = subst (λ (h : List Entry). IsOwn (layout_of script) h 1 c) none (x.own 1 c printed) in
    none_some own.entry own.granted.stands

-- more than 128 entries of a vehicle
pub too_many_entries : (workers : ℕ) (script : List Line) (text : List ℕ) (x : IsReport workers script text) → length (entries_of x.journal 0) ≡ 129 → ⊥
too_many_entries workers script text x many =
    let few : length (entries_of x.journal 0) ≤ 128 = x.short 0 (λ e. absurd (cc e)) in
    absurd (omega (arith, many, few))

-- an entry of no order
pub an_order_too_many : (workers : ℕ) (script : List Line) (text : List ℕ) (x : IsReport workers script text) → length (entries_of x.journal OPERATOR) ≡ length (orders_of script) + 1 → ⊥
an_order_too_many workers script text x more =
    let same : length (entries_of x.journal OPERATOR) ≡ length (orders_of script) = x.orders in
    absurd (omega (arith, more, same))
