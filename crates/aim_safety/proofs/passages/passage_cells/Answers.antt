use Rattle.std.proofs.Common.{◌≡◌, List, ap, arith, length, map, subst, ◌∙◌}
use Rattle.std.specs.Prelude.{IfOk}
use Rattle.aim_geometry.specs.Cells as rules
use Rattle.aim_safety.specs.Tiles.{cell_of}
use Rattle.aim_safety.proofs.FootprintLemmas.{few_steps, passage_shown}
use Rattle.aim_safety.proofs.passages.passage_cells.Goals as goal

pub shown_tiles-requires-clause-few : goal.shown_tiles-requires-clause-few
shown_tiles-requires-clause-few c =
    let few = few_steps c.args.layout.now c.args.params.now c.args.fast c.requires.good c.requires.tried in
    let all = ap length c.deref.ensures.value ∙ c.in_ok-steps.ensures.all in
    omega arith

pub returns : goal.returns
returns c =
    let shown = passage_shown c.args.layout.now c.args.params.now c.args.fast c.args.step c.grid.result.n c.deref.result.now c.in_ok-steps.steps.items c.deref.ensures.value
    (ap (λ g. g.n) (c.grid.ensures.grid ∙ c.ground.ensures.grid)) c.ground.ensures.valid.sound.grid.rows c.in_ok-steps.ensures in
    let P : List rules.Cell → Type 0 = λ all. IfOk c.shown_tiles.result (λ cells. map cell_of cells.items ≡ all) in
    subst P shown c.shown_tiles.ensures
