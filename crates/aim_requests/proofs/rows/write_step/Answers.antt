use Rattle.std.proofs.Common.{◌≡◌, ◌+◌, arith, refl, true, length, if◌then◌else◌}
use Rattle.aim_geometry.specs.Cells.{cell_at}
use Rattle.aim_sheets.specs.Spans.{in_spans}
use Rattle.aim_requests.specs.Counts.{count_below}
use Rattle.aim_requests.specs.Rows.{has_shown, in_rows_of}
use Rattle.aim_requests.proofs.CountLemmas.{count_more, count_rises}
use Rattle.aim_requests.proofs.RowLemmas.{mask_marks, on_err, or_none, row_counts, rows_more, rows_none, shown_none}
use Rattle.aim_requests.proofs.rows.write_step.Goals as goal

pub loop-row-init : goal.loop-row-init
loop-row-init c =
    let a = c.args in
    let none = shown_none a.n a.first a.inner.now a.outer.now in
    record {
      cells = λ s r k. or_none (in_spans a.sheet.now.spans (cell_at s r k)) (in_rows_of a.n a.inner.now a.outer.now a.step a.first a.first s r k) (rows_none a.n a.step a.first s r k a.inner.now a.outer.now);
      count = omega arith;
      before = c.requires.before;
      fits = c.requires.fits;
      room = refl;
    }

pub returns-in_err-push_row-clause-full : goal.returns-in_err-push_row-clause-full
returns-in_err-push_row-clause-full c =
    let a = c.args in
    let row = c.loop-row.row in
    let i = c.loop-row.invariant in
    let test = has_shown a.n a.inner.now a.outer.now a.first in
    let full = c.in_err-push_row.ensures.full in
    let marked : test row ≡ true = mask_marks a.n a.first row c.row_mask-mask.result a.inner.now a.outer.now (omega arith) c.row_mask-mask.type_inv full.0 c.row_mask-mask.ensures in
    let more : count_below (row + 1) test ≡ count_below row test + 1 = rw marked at (count_more row test) in
    let up = count_rises (row + 1) (a.last + 1) test (omega arith) in
    let most = full.1 in
    let count = i.count in
    let room = i.room in
    on_err c.from_residual.result _ (omega arith)

pub loop-row-preserved : goal.loop-row-preserved
loop-row-preserved c =
    let a = c.args in
    let row = c.loop-row.row in
    let i = c.loop-row.invariant in
    let mask = c.row_mask-mask.result in
    let ok = c.in_ok-push_row.ensures in
    let test = has_shown a.n a.inner.now a.outer.now a.first in
    let counts = row_counts a.n a.first row mask a.inner.now a.outer.now (omega arith) c.row_mask-mask.type_inv c.row_mask-mask.ensures in
    let one : length c.push_row.new.sheet.spans ≡ length c.loop-row.sheet.spans + (if test row then 1 else 0) = rw counts at ok.count in
    let more = count_more row test in
    let count = i.count in
    record {
      cells = λ s r k. rows_more a.n a.step a.first row s r k mask a.inner.now a.outer.now (in_spans c.loop-row.sheet.spans (cell_at s r k)) (in_spans c.push_row.new.sheet.spans (cell_at s r k)) (in_spans a.sheet.now.spans (cell_at s r k)) (omega arith) c.row_mask-mask.type_inv c.row_mask-mask.ensures (ok.cells s r k) (i.cells s r k);
      count = omega arith;
      before = ok.before;
      fits = ok.fits;
      room = cc;
    }

pub returns-clause-cells : goal.returns-clause-cells
returns-clause-cells c = λ s r k.
    let end : c.loop-row.row ≡ c.args.last + 1 = omega arith in
    rw end at (c.loop-row.invariant.cells s r k)

pub returns-clause-count : goal.returns-clause-count
returns-clause-count c =
    let end : c.loop-row.row ≡ c.args.last + 1 = omega arith in
    rw end at c.loop-row.invariant.count

pub returns-clause-before : goal.returns-clause-before
returns-clause-before c =
    let end : c.loop-row.row ≡ c.args.last + 1 = omega arith in
    rw end at c.loop-row.invariant.before
