use Rattle.std.proofs.Common.{arith, subst, sym}
use Rattle.aim_sheets.proofs.Moved.{moved_in_order}
use Rattle.aim_sheets.specs.Moves.{MayMove}
use Rattle.aim_sheets.specs.Sheets.{Spans}
use Rattle.aim_sheets.proofs.sheets.Slots.move_to.Goals as goal

pub invariant_of-self : goal.invariant_of-self
invariant_of-self c =
    rw c.move_held.ensures.items (
      moved_in_order c.args.from c.args.to _ _ (subst (λ (s : Spans). MayMove c.args.from c.args.to s.spans) (sym c.self.view_is) c.requires) c.self.invariant.0.rising c.self.invariant.0.marked c.self.invariant.0.fits,
      (let i = c.self.invariant.1 in let k = c.move_held.ensures.capacity in omega arith),
    )
