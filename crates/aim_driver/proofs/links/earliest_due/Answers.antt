use Rattle.std.proofs.Common.{◌∙◌, ap}
use Rattle.std.proofs.lemmas.List.{take_all}
use Rattle.aim_driver.specs.Links.{earliest}
use Rattle.aim_driver.proofs.LinkLemmas.{earliest_of_more}
use Rattle.aim_driver.proofs.links.earliest_due.Goals as goal

pub loop-sending-preserved : goal.loop-sending-preserved
loop-sending-preserved g c =
    let l = c.loop-sending in
    earliest_of_more c.args.lag c.args.sent.now l.sending-index c.sending-item.result l.least c.due_step.result c.sooner_of-least.result
    c.loop-sending-test.true c.sending-item.is l.invariant c.due_step.ensures c.sooner_of-least.ensures

pub returns : goal.returns
returns g c = c.loop-sending.invariant ∙ ap (λ ss. earliest c.args.lag ss) (take_all c.loop-sending.sending-index c.args.sent.now c.loop-sending-test.false)
