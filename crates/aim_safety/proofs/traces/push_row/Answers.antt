use Rattle.std.proofs.Common.{◌≡◌, ◌+◌, ◌++◌, ◌∙◌, ap, arith, filter, length, map, sym}
use Rattle.std.proofs.lemmas.List.{append-nil}
use Rattle.aim_safety.specs.Tiles.{cell_of, of_row, of_tile}
use Rattle.aim_safety.specs.Traces.{is_traced}
use Rattle.aim_safety.proofs.TraceLemmas.{goes_on, none_traced, parts_more}
use Rattle.aim_safety.proofs.traces.push_row.Goals as goal
use Rattle.aim_safety.proofs.traces.push_row.Goals.{then-has_tile+in_ok-push_steps, else-has_tile}

pub loop-col-preserved : goal.loop-col-preserved
loop-col-preserved c =
    let steps = c.args.steps.now in
    let p = is_traced steps c.args.first in
    let count = length steps in
    let row = of_row c.args.first count in
    let tile = filter p (of_tile c.args.first count c.args.row c.loop-col.col) in
    let old = map cell_of c.loop-col.cells.items in
    let part : map cell_of c.if-has_tile.cells.items ≡ old ++ tile = elim c.if-has_tile.branch [
      | then-has_tile+in_ok-push_steps w ↦ ap (λ v. map cell_of v.items) w.cells-is ∙ w.in_ok-push_steps.ensures
      | else-has_tile w ↦
          (let never = c.gather_row-shown.ensures.never c.loop-col.col (sym c.has_tile.ensures ∙ w.if-has_tile.false) in
          ap (λ v. map cell_of v.items) w.cells-is ∙ sym (append-nil old)
          ∙ ap (λ xs. old ++ xs) (sym (none_traced steps c.args.first count c.args.row c.loop-col.col (omega arith) never)))
    ] in
    goes_on old (map cell_of c.if-has_tile.cells.items) (filter p (row c.loop-col.col c.args.row)) tile (filter p (row (c.loop-col.col + 1) c.args.row)) (map cell_of c.args.cells.now.items) c.loop-col.invariant part
    (parts_more (of_tile c.args.first count c.args.row) p c.loop-col.col)

pub returns : goal.returns
returns c =
    let whole : c.loop-col.col ≡ c.args.n = omega (arith, c.loop-col-test.false, c.loop-col.auto.col-end) in
    c.loop-col.invariant ∙ ap (λ n. map cell_of c.args.cells.now.items ++ filter (is_traced c.args.steps.now c.args.first) (of_row c.args.first (length c.args.steps.now) n c.args.row)) whole
