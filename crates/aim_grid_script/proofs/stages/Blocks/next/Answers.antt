use Rattle.std.proofs.Common.{◌+◌, ◌∙◌, ap, sym, length, nat_le}
use Rattle.aim_grid_script.specs.Said.{parted}
use Rattle.aim_grid_script.proofs.Ending.{next_ended}
use Rattle.aim_grid_script.proofs.Staging.{next_late}
use Rattle.aim_grid_script.proofs.stages.Blocks.next.Goals as goal

pub returns-then-has_all : goal.returns-then-has_all
returns-then-has_all c before a =
    next_late before c.args.self c.args.number a (ap (λ ls. nat_le c.args.self.count (length ls + 1)) (sym c.deref.ensures.value) ∙ sym c.has_all.ensures ∙ c.if-has_all.true)

pub returns-in-Err : goal.returns-in-Err
returns-in-Err c before a =
    let p = parted before in
    let early = ap (λ ls. nat_le c.args.self.count (length ls + 1)) (sym c.deref.ensures.value) ∙ sym c.has_all.ensures ∙ c.if-has_all.false in
    rw c.told.ensures (next_ended before c.args.self c.args.number c.in-Err.why a early (c.in-Err.ensures p.block a.header))

pub further_block-requires : goal.further_block-requires
further_block-requires c = ap (λ ls. nat_le c.args.self.count (length ls + 1)) (sym c.deref.ensures.value) ∙ sym c.has_all.ensures ∙ c.if-has_all.false

pub returns-in-Ok : goal.returns-in-Ok
returns-in-Ok c before a =
    let p = parted before in
    c.further_block.ensures before c.args.self.header a (c.in-Ok.ensures p.block a.header)
