use Rattle.aim_sheets.proofs.Edits.{joined_in_order, joined_cells}
use Rattle.aim_sheets.proofs.sheets.Slots.join.Goals as goal

pub invariant_of-self : goal.invariant_of-self
invariant_of-self c = (
  joined_in_order (record { spans = c.self.inside.held.items; room = c.self.inside.room }) c.args.self.now c.args.at c.index_mut.result.now c.args.span c.self.view_is c.index_mut.ensures.value c.requires.in_range c.self.invariant.0,
  c.self.invariant.1,
)

pub returns-clause-cells : goal.returns-clause-cells
returns-clause-cells c =
    joined_cells (record { spans = c.self.inside.held.items; room = c.self.inside.room }) c.args.self.now c.args.at c.index_mut.result.now c.args.span c.self.view_is c.index_mut.ensures.value c.requires.in_range (c.requires.same c.index_mut.result.now)
