use Rattle.std.proofs.Common.{◌⊎◌, length, inl, inr}
use Rattle.aim_footprint.specs.Ways.{RowsRise, RowsFall}
use Rattle.aim_footprint.proofs.WayLemmas.{steady, rows_rise_in, rows_fall_in, columns_rise_in, columns_fall_in}
use Rattle.aim_footprint.proofs.fills.are_steady.Goals as goal

pub returns-then-east : goal.returns-then-east
returns-then-east c = λ e.
    let i = c.loop-j.invariant in
    let end = c.loop-j-test.false in
    let rows : RowsRise c.args.rects.now (length c.args.rects.now) ⊎ RowsFall c.args.rects.now (length c.args.rects.now) = elim c.if-south.either [
      | inl n ↦ inl (rows_rise_in c.args.rects.now c.loop-j.j (length c.args.rects.now) end (i.north n))
      | inr s ↦ inr (rows_fall_in c.args.rects.now c.loop-j.j (length c.args.rects.now) end (i.south s.1))
    ] in
    steady c.args.rects.now rows (inl (columns_rise_in c.args.rects.now c.loop-j.j (length c.args.rects.now) end (i.east e)))

pub returns-else-east : goal.returns-else-east
returns-else-east c = λ w.
    let i = c.loop-j.invariant in
    let end = c.loop-j-test.false in
    let rows : RowsRise c.args.rects.now (length c.args.rects.now) ⊎ RowsFall c.args.rects.now (length c.args.rects.now) = elim c.if-south.either [
      | inl n ↦ inl (rows_rise_in c.args.rects.now c.loop-j.j (length c.args.rects.now) end (i.north n))
      | inr s ↦ inr (rows_fall_in c.args.rects.now c.loop-j.j (length c.args.rects.now) end (i.south s.1))
    ] in
    steady c.args.rects.now rows (inr (columns_fall_in c.args.rects.now c.loop-j.j (length c.args.rects.now) end (i.west w)))
