use Rattle.std.proofs.Common.{◌++◌, map, refl}
use Rattle.std.proofs.lemmas.Result.{on_ok_weaker}
use Rattle.aim_safety.specs.Tiles.{cell_of}
use Rattle.aim_report.specs.Stays.{stays}
use Rattle.aim_report.specs.Reports.{stay_lines}
use Rattle.aim_report.proofs.LineLemmas.{lines_end, lines_go_on}
use Rattle.aim_report.proofs.stays.put_stays.Goals as goal

pub loop-cell-init : goal.loop-cell-init
loop-cell-init c = refl

pub loop-cell-preserved : goal.loop-cell-preserved
loop-cell-preserved c =
    lines_go_on c.args.vehicle c.args.cells.now c.loop-cell.cell-index (record { row = 0; col = 0; step = 0 }) c.loop-cell.out.items c.put_next.new.out.items
    (c.args.out.now.items ++ stay_lines c.args.vehicle (stays (map cell_of c.args.cells.now))) c.loop-cell.stay c.in_ok-put_next.field-0 c.loop-cell-test.true c.loop-cell.invariant c.in_ok-put_next.ensures

pub returns : goal.returns
returns c =
    on_ok_weaker c.put_last.result
    (lines_end c.args.vehicle c.args.cells.now c.loop-cell.cell-index c.loop-cell.out.items c.put_last.new.out.items
    (c.args.out.now.items ++ stay_lines c.args.vehicle (stays (map cell_of c.args.cells.now))) c.loop-cell.stay c.loop-cell-test.false c.loop-cell.invariant)
    c.put_last.ensures
