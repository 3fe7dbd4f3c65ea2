use Rattle.std.proofs.Common.{◌<◌, get_or, length, ap, sym, subst, ◌∙◌, arith}
use Rattle.aim_agents.specs.Agents.{front_of}
use Rattle.aim_agents.specs.Went.{Met}
use Rattle.aim_agents.proofs.RunLaws.{done_more}
use Rattle.aim_agents.proofs.runs.meet_all.Goals as goal

pub loop-agent-preserved : goal.loop-agent-preserved
loop-agent-preserved c =
    let s = c.args.manager.now.setting in
    let shown = front_of c.args.operator.now in
    let lt : c.loop-agent.agent-index < length c.loop-agent.agents = omega arith in
    record {
      same = c.front-front.ensures.pass ∙ c.loop-agent.invariant.same;
      met = done_more s (λ a b. Met s a shown b) c.loop-agent.agent-index c.args.agents.now c.loop-agent.agents c.agent-item.result c.meet.new.self c.loop-agent.invariant.met lt c.agent-item.is
          (subst (λ x. Met s x shown c.meet.new.self) (sym c.agent-item.is)
          (subst (λ f. Met s (get_or c.loop-agent.agents c.loop-agent.agent-index c.agent-item.result) f c.meet.new.self) (c.front-front.ensures.front ∙ ap front_of c.loop-agent.invariant.same) c.meet.ensures));
    }
