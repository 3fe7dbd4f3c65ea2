use Rattle.std.proofs.Common.{◌<◌, length, sym, ap, ◌∙◌, arith}
use Rattle.aim_agents.proofs.RunLaws.{gathered_more}
use Rattle.aim_agents.proofs.runs.gather.Goals as goal

pub loop-agent-preserved : goal.loop-agent-preserved
loop-agent-preserved c =
    let lt : c.loop-agent.agent-index < length c.loop-agent.agents = omega arith in
    let s = c.loop-agent.invariant.same in
    let t = c.meet.ensures.same in
    record {
      same = record { table = t.table ∙ s.table; setting = t.setting ∙ s.setting; number = t.number ∙ s.number };
      gathered = gathered_more c.args.manager.now.setting c.loop-agent.agent-index c.args.operator.now c.loop-agent.operator c.meet.new.pass c.args.agents.now c.loop-agent.agents
          c.agent-item.result c.front-front.new.self c.front-front.result c.loop-agent.invariant.gathered lt c.agent-item.is
          (c.front-front.ensures.same ∙ sym c.agent-item.is) (ap (λ f. f.seen) c.front-front.ensures.front ∙ ap (λ a. a.pass.seen) (sym c.agent-item.is)) t c.meet.ensures.meets;
    }
