use Rattle.std.proofs.Common.{subst, sym}
use Rattle.aim_agents.specs.Runs.{Followed, shown_by}
use Rattle.aim_agents.proofs.RunLaws.{followed_met, followed_none}
use Rattle.aim_agents.proofs.runs.follow.Goals as goal

pub returns-in-Some : goal.returns-in-Some
returns-in-Some c =
    let s = c.args.manager.now.setting in
    subst (λ o. Followed s (shown_by o) c.args.agent.now c.meet.new.self) (sym c.in-Some.is)
    (followed_met s c.args.agent.now c.meet.new.self c.in-Some.front c.meet.ensures)

pub returns-in-None : goal.returns-in-None
returns-in-None c =
    let s = c.args.manager.now.setting in
    subst (λ o. Followed s (shown_by o) c.args.agent.now c.args.agent.now) (sym c.in-None.is) (followed_none s c.args.agent.now)
