use Rattle.std.proofs.Common.{◌+◌, ap, subst, sym, ◌∙◌}
use Rattle.aim_agents.proofs.Sheets.{agent_went}
use Rattle.aim_agents.specs.Runs.{Behind, shown_by}
use Rattle.aim_agents.proofs.RunLaws.{behind_is}
use Rattle.aim_agents.proofs.runs.one_turn.Goals as goal

pub turn-requires-clause-own : goal.turn-requires-clause-own
turn-requires-clause-own g c κs within =
    agent_went c.args.manager.now c.args.manager.now.setting c.args.step c.args.step c.args.agent.now c.follow.new.agent (c.follow.ensures.went c.args.step) c.requires.own

pub turn-requires-clause-last : goal.turn-requires-clause-last
turn-requires-clause-last g c κs within = (c.follow.ensures.went c.args.step).late c.requires.last

pub front-requires : goal.front-requires
front-requires g c = record {
  own = (agent_went c.args.manager.now c.args.manager.now.setting c.args.step (c.args.step + 1) c.follow.new.agent c.turn.new.self c.turn.ensures
      (agent_went c.args.manager.now c.args.manager.now.setting c.args.step c.args.step c.args.agent.now c.follow.new.agent (c.follow.ensures.went c.args.step) c.requires.own)).pass;
}

pub returns-clause-table : goal.returns-clause-table
returns-clause-table g c =
    ap (λ f. f.table) c.front.ensures.front
    ∙ (agent_went c.args.manager.now c.args.manager.now.setting c.args.step (c.args.step + 1) c.follow.new.agent c.turn.new.self c.turn.ensures
    (agent_went c.args.manager.now c.args.manager.now.setting c.args.step c.args.step c.args.agent.now c.follow.new.agent (c.follow.ensures.went c.args.step) c.requires.own)).pass.table

pub returns-clause-behind : goal.returns-clause-behind
returns-clause-behind g c =
    let s = c.args.manager.now.setting in
    subst (λ x. Behind s c.args.step (shown_by c.args.before) c.args.agent.now x) (sym c.front.ensures.same)
    (behind_is s c.args.step (shown_by c.args.before) c.args.agent.now c.follow.new.agent c.turn.new.self c.follow.ensures c.turn.ensures)
