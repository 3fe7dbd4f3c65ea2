use Rattle.std.proofs.Common.{◌+◌, sym, subst, arith}
use Rattle.aim_agents.specs.Agents.{AgentModel}
use Rattle.aim_agents.specs.Went.{Went}
use Rattle.aim_agents.proofs.Rests.{idles_went}
use Rattle.aim_agents.proofs.agents.Agent.turn.Goals as goal

pub returns-then-step-idle_until : goal.returns-then-step-idle_until
returns-then-step-idle_until g c =
    idles_went c.args.manager.now.setting c.args.step (c.args.step + 1) c.args.self.now (omega arith) (λ t lo hi. c.idle_until.ensures t lo (omega arith))

pub returns-then-step-lt-LATEST_MOMENT : goal.returns-then-step-lt-LATEST_MOMENT
returns-then-step-lt-LATEST_MOMENT g c =
    subst (λ (x : AgentModel). Went c.args.manager.now.setting c.args.step (c.args.step + 1) c.args.self.now x) (sym c.note_rest.ensures) c.take_turn.ensures
