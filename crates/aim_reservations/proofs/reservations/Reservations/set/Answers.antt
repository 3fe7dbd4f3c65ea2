use Rattle.std.proofs.Common.{None, Some}
use Rattle.aim_reservations.proofs.RowLemmas.{cells_set, cost_set, row_read, sheet_read}
use Rattle.aim_reservations.proofs.reservations.Reservations.set.Goals as goal

pub release-requires : goal.release-requires
release-requires g c = rw (row_read c.args.self.now.rows.items c.args.vehicle c.index.result.now c.requires.there c.index.ensures) c.requires.own

pub returns-in-Some-clause-sheet : goal.returns-in-Some-clause-sheet
returns-in-Some-clause-sheet g c =
    sheet_read c.args.self.now.rows.items c.args.vehicle c.index_mut.result.now c.replace.result (Some c.in-Some.field-0)
    c.requires.there c.index_mut.ensures.value c.replace.ensures.value c.in-Some.is

pub returns-in-Some-clause-cells : goal.returns-in-Some-clause-cells
returns-in-Some-clause-cells g c = λ cell.
    cells_set c.args.self.now.rows.items c.args.vehicle c.index.result.now c.args.reservation c.args.self.now.table c.release.new.table c.claim.new.table cell
    c.requires.there c.index.ensures (c.release.ensures.cells cell) (c.claim.ensures.cells cell)

pub returns-in-None-clause-sheet : goal.returns-in-None-clause-sheet
returns-in-None-clause-sheet g c =
    sheet_read c.args.self.now.rows.items c.args.vehicle c.index_mut.result.now c.replace.result None
    c.requires.there c.index_mut.ensures.value c.replace.ensures.value c.in-None.is

pub returns-in-None-clause-cells : goal.returns-in-None-clause-cells
returns-in-None-clause-cells g c = λ cell.
    cells_set c.args.self.now.rows.items c.args.vehicle c.index.result.now c.args.reservation c.args.self.now.table c.release.new.table c.claim.new.table cell
    c.requires.there c.index.ensures (c.release.ensures.cells cell) (c.claim.ensures.cells cell)

pub returns-in-Some-clause-cost : goal.returns-in-Some-clause-cost
returns-in-Some-clause-cost g c =
    cost_set c.args.self.now.rows.items c.args.vehicle c.index.result.now c.args.reservation c.args.steps.now c.release.new.steps c.claim.new.steps
    c.requires.there c.index.ensures c.release.ensures.cost c.claim.ensures.cost

pub returns-in-None-clause-cost : goal.returns-in-None-clause-cost
returns-in-None-clause-cost g c =
    cost_set c.args.self.now.rows.items c.args.vehicle c.index.result.now c.args.reservation c.args.steps.now c.release.new.steps c.claim.new.steps
    c.requires.there c.index.ensures c.release.ensures.cost c.claim.ensures.cost
