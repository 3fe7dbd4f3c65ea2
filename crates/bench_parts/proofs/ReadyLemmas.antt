-- One sheet of those that are ready.
use Rattle.std.proofs.Common.{◌≡◌, ℕ, ◌+◌, ◌<◌, List, length, get_or, sym, subst, ◌∙◌, inl, inr, arith}
use Rattle.std.proofs.lemmas.Bool.{cases_order}
use Rattle.std.proofs.lemmas.List.{get_or_default}
use Rattle.aim_sheets.specs.Sheets.{Spans}
use Rattle.aim_tiles.specs.Cells.{TakenCells}
use Rattle.aim_tiles.specs.Sheets.{AreTiles, AreAhead}
use Rattle.bench_parts.specs.Ready.{IsReady, AreReady}

pub ready_more : (table : TakenCells) (sheets : List Spans) (i : ℕ) (sheet : Spans) → i < length sheets → sheet ≡ get_or sheets i sheet → AreTiles table.size sheet.spans → AreAhead table.current table.horizon sheet.spans
    → ((k : ℕ) (d : Spans) → k < i → IsReady table (get_or sheets k d)) → (k : ℕ) (d : Spans) → k < i + 1 → IsReady table (get_or sheets k d)
ready_more table sheets i sheet lt is tiles ahead before k d below = elim (cases_order k i) [
  | inl e ↦ subst (λ (m : ℕ). IsReady table (get_or sheets m d)) (sym e) (subst (IsReady table) (is ∙ get_or_default sheets i sheet d lt) (tiles, ahead))
  | inr (inl earlier) ↦ before k d earlier
  | inr (inr later) ↦ absurd (omega arith)
]

-- a sheet that was ready still is
pub ready_at : (old table : TakenCells) (sheets : List Spans) (i : ℕ) (sheet : Spans) → i < length sheets → sheet ≡ get_or sheets i sheet → table ≡ record old { cells = table.cells } → AreReady old sheets → IsReady table sheet
ready_at old table sheets i sheet lt is same ready =
    subst (λ (s : Spans). IsReady table s) (sym is) (subst (λ (t : TakenCells). IsReady t (get_or sheets i sheet)) (sym same) (ready i sheet lt))

pub ready_kept : (old table : TakenCells) (sheets read : List Spans) → read ≡ sheets → table ≡ record old { cells = table.cells } → AreReady old sheets → AreReady table read
ready_kept old table sheets read read_is same ready =
    subst (λ (ss : List Spans). AreReady table ss) (sym read_is) (subst (λ (t : TakenCells). AreReady t sheets) (sym same) ready)
