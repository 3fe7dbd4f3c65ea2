use Rattle.std.proofs.Common.{◌≡◌, ◌<◌, ◌≤◌, length, ap, sym, subst, arith}
use Rattle.aim_agents.specs.Runs.{Behind, shown_by}
use Rattle.aim_agents.proofs.RunLaws.{running_more}
use Rattle.aim_agents.proofs.runs.run_turns.Goals as goal

pub loop-agent-preserved : goal.loop-agent-preserved
loop-agent-preserved g c =
    let s = c.args.manager.now.setting in
    let lt : c.loop-agent.agent-index < length c.loop-agent.agents = omega arith in
    let e : length c.one_turn.result.seen ≡ length c.one_turn.new.agent.pass.seen = ap (λ l. length l) c.one_turn.ensures.seen in
    let reach : length c.one_turn.new.agent.pass.seen ≤ length c.one_turn.result.seen = omega arith in
    record {
      before = c.one_turn.ensures.table;
      running = running_more s c.args.step c.loop-agent.agent-index (shown_by c.loop-agent.before) (length c.one_turn.result.seen) c.args.agents.now c.loop-agent.agents
          c.agent-item.result c.one_turn.new.agent c.loop-agent.invariant.running lt c.agent-item.is
          (subst (λ a. Behind s c.args.step (shown_by c.loop-agent.before) a c.one_turn.new.agent) (sym c.agent-item.is) c.one_turn.ensures.behind) reach;
    }
