use Rattle.std.proofs.Common.{◌≡◌, ◌++◌, ap, arith, filter, length, map, sym, ◌∙◌, true, false}
use Rattle.aim_geometry.specs.Rects.{has_bit}
use Rattle.aim_safety.specs.Tiles.{cell_of, of_tile}
use Rattle.aim_safety.specs.Traces.{is_traced}
use Rattle.aim_safety.proofs.TraceLemmas.{step_more}
use Rattle.aim_safety.proofs.traces.push_steps.Goals as goal
use Rattle.aim_safety.proofs.traces.push_steps.Goals.{then-has_tile+in_ok-push, else-has_tile}

pub loop-k-preserved : goal.loop-k-preserved
loop-k-preserved c = elim c.if-has_tile.branch [
  | then-has_tile+in_ok-push w ↦
      step_more c.args.steps.now c.args.first c.loop-k.k c.args.row c.args.col c.loop-k.cells.items c.if-has_tile.cells.items (map cell_of c.args.cells.now.items) true
      (sym w.if-has_tile.true ∙ c.has_tile.ensures ∙ ap (λ m. has_bit m c.args.col) (c.requires.gathered c.loop-k.k (omega (arith, c.loop-k-test.true)))) c.loop-k.invariant (ap (λ v. v.items) w.cells-is ∙ w.in_ok-push.ensures.items)
  | else-has_tile w ↦
      step_more c.args.steps.now c.args.first c.loop-k.k c.args.row c.args.col c.loop-k.cells.items c.if-has_tile.cells.items (map cell_of c.args.cells.now.items) false
      (sym w.if-has_tile.false ∙ c.has_tile.ensures ∙ ap (λ m. has_bit m c.args.col) (c.requires.gathered c.loop-k.k (omega (arith, c.loop-k-test.true)))) c.loop-k.invariant (ap (λ v. v.items) w.cells-is)
]

pub returns : goal.returns
returns c =
    let whole : c.loop-k.k ≡ length c.args.steps.now = omega (arith, c.loop-k-test.false, c.loop-k.auto.k-end) in
    c.loop-k.invariant ∙ ap (λ n. map cell_of c.args.cells.now.items ++ filter (is_traced c.args.steps.now c.args.first) (of_tile c.args.first n c.args.row c.args.col)) whole
