use Rattle.std.proofs.Common.{Some, None, refl, sym, ◌∙◌}
use Rattle.aim_driver.specs.Turns.{state}
use Rattle.aim_driver.proofs.BeginLemmas.{begins}
use Rattle.aim_driver.proofs.turns.begin_turn.Goals as goal

pub returns-in_ok-send-clause-begun : goal.returns-in_ok-send-clause-begun
returns-in_ok-send-clause-begun c =
    begins c.args.driver.now.plan c.reserve.new.self.plan c.reserve-2.new.self.plan c.args.step (state c.args.driver.now.log c.args.up.now c.args.down.now)
    c.hear.new.driver.log c.reserve.new.self.log c.enter-entered.new.self.log c.reserve-2.new.self.log c.act.new.self.log
    (Some c.in-Some.message) c.args.up.now c.send.new.self c.hear.new.down
    (c.reserve.ensures.plan ∙ c.hear.ensures.plan)
    (c.reserve-2.ensures.plan ∙ c.enter-entered.ensures.plan ∙ c.reserve.ensures.plan ∙ c.hear.ensures.plan)
    (c.in_ok-hear.ensures.heard c.args.up.now) c.reserve.ensures.log c.enter-entered.ensures.log c.reserve-2.ensures.log
    (sym c.in-Some.is ∙ c.act.ensures.answer) c.act.ensures.log c.in_ok-send.ensures.ok

pub returns-in_default-clause-begun : goal.returns-in_default-clause-begun
returns-in_default-clause-begun c =
    begins c.args.driver.now.plan c.reserve.new.self.plan c.reserve-2.new.self.plan c.args.step (state c.args.driver.now.log c.args.up.now c.args.down.now)
    c.hear.new.driver.log c.reserve.new.self.log c.enter-entered.new.self.log c.reserve-2.new.self.log c.act.new.self.log
    None c.args.up.now c.args.up.now c.hear.new.down
    (c.reserve.ensures.plan ∙ c.hear.ensures.plan)
    (c.reserve-2.ensures.plan ∙ c.enter-entered.ensures.plan ∙ c.reserve.ensures.plan ∙ c.hear.ensures.plan)
    (c.in_ok-hear.ensures.heard c.args.up.now) c.reserve.ensures.log c.enter-entered.ensures.log c.reserve-2.ensures.log
    (sym c.in_default.is ∙ c.act.ensures.answer) c.act.ensures.log refl
