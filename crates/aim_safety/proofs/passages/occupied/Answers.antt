use Rattle.std.proofs.Common.{◌≡◌, map, Option, subst, sym}
use Rattle.std.specs.Prelude.{IfOk}
use Rattle.aim_safety.specs.Begun.{passage_as}
use Rattle.aim_safety.specs.Occupied.{Passage}
use Rattle.aim_safety.specs.Tiles.{cell_of, cells_of_passage}
use Rattle.aim_safety.proofs.PassageLemmas.{passage_by, passage_good, passage_tried}
use Rattle.aim_safety.proofs.passages.occupied.Goals as goal

pub passage_cells-requires-clause-step : goal.passage_cells-requires-clause-step
passage_cells-requires-clause-step c = passage_by 2147483648 c.args.layout.now c.args.journal.now c.args.log.now (passage_as c.in-Some.crossing) c.requires (sym (rw c.in-Some.is at c.in_ok-crossing.ensures))

pub passage_cells-requires-clause-good : goal.passage_cells-requires-clause-good
passage_cells-requires-clause-good c = passage_good c.args.layout.now c.args.journal.now c.args.log.now (passage_as c.in-Some.crossing) (sym (rw c.in-Some.is at c.in_ok-crossing.ensures))

pub passage_cells-requires-clause-tried : goal.passage_cells-requires-clause-tried
passage_cells-requires-clause-tried c = passage_tried c.args.layout.now c.args.journal.now c.args.log.now (passage_as c.in-Some.crossing) (sym (rw c.in-Some.is at c.in_ok-crossing.ensures))

pub returns : goal.returns
returns c =
    let P : Option Passage → Type 0 = λ o. IfOk c.passage_cells.result (λ cells. map cell_of cells.items ≡ cells_of_passage c.args.layout.now o) in
    subst P (rw c.in-Some.is at c.in_ok-crossing.ensures) c.passage_cells.ensures
