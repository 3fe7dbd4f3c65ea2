use Rattle.std.proofs.Common.{sym, subst}
use Rattle.aim_agents.specs.Rounds.{Stepped}
use Rattle.aim_agents.proofs.RoundLaws.{stepped_is}
use Rattle.aim_agents.proofs.steps.one_step.Goals as goal

pub returns : goal.returns
returns g c =
    subst (λ o. Stepped c.args.manager.now.setting c.args.step c.args.size c.args.operator.now o c.args.agents.now c.meet_all.new.agents) (sym c.meet_all.ensures.operator)
    (stepped_is c.args.manager.now.setting c.args.step c.args.size c.args.operator.now c.gather.new.operator c.args.agents.now c.turns.new.agents c.gather.new.agents c.meet_all.new.agents
    c.gather.ensures.same c.turns.ensures c.gather.ensures.gathered c.meet_all.ensures.met)
