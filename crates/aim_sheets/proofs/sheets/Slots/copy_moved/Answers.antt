use Rattle.std.proofs.Common.{◌≡◌, ◌≤◌, length, arith, ap}
use Rattle.aim_sheets.proofs.Moved.{moved_in_order}
use Rattle.aim_sheets.specs.Sheets.{Spans}
use Rattle.aim_sheets.proofs.sheets.Slots.copy_moved.Goals as goal

pub invariant_of-self : goal.invariant_of-self
invariant_of-self c =
    let r : c.self.inside.room ≡ c.args.self.now.room = ap (λ (s : Spans). s.room) c.self.view_is in
    let b : length c.args.others.now ≤ c.self.inside.room = omega (arith, c.requires.room) in
    rw c.replace_moved.ensures.items (
      moved_in_order _ _ _ _ c.requires.reach c.requires.rising c.requires.marked b,
      (let i = c.self.invariant.1 in let k = c.replace_moved.ensures.capacity in omega arith),
    )
