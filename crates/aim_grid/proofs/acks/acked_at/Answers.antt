use Rattle.std.proofs.Common.{ap, ◌∙◌, arith}
use Rattle.std.proofs.lemmas.List.{take_all}
use Rattle.aim_grid.specs.declared.acks.Told.{Told}
use Rattle.aim_grid.specs.Acked.{acked_with}
use Rattle.aim_grid.specs.Told.{told_all}
use Rattle.aim_grid.proofs.Tells.{told_is}
use Rattle.aim_grid.proofs.acks.acked_at.Goals as goal

pub returns : goal.returns
returns c = c.acked.ensures ∙ ap (λ (t : Told). acked_with t.latest t.answer t.at) (c.loop-item.invariant ∙ ap told_all (take_all c.loop-item.item-index c.args.log.now (omega arith)) ∙ told_is c.args.log.now)
