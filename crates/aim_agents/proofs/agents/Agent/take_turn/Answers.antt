use Rattle.std.proofs.Common.{◌≡◌, ◌+◌, true, false, Option, Some, None, sym, ap, ◌∙◌, subst}
use Rattle.std.specs.Prelude.{is_some}
use Rattle.aim_agents.specs.declared.agents.Trouble.{Trouble}
use Rattle.aim_agents.specs.Agents.{AgentModel}
use Rattle.aim_agents.specs.Went.{Went}
use Rattle.aim_agents.proofs.Courses.{stuck_went}
use Rattle.aim_agents.proofs.Turns.{turn_went, trouble_went}
use Rattle.aim_agents.proofs.agents.Agent.take_turn.Goals as goal

is_calm : (o p : Option Trouble) → is_some o ≡ false → o ≡ p → p ≡ None
is_calm None p e same = sym same
is_calm (Some t) p e same = absurd (cc e)

is_stuck : (o p : Option Trouble) → is_some o ≡ true → o ≡ p → p ≡ None → ⊥
is_stuck None p e same n = cc e
is_stuck (Some t) p e same n = cc (same, n)

pub returns-then-is_some : goal.returns-then-is_some
returns-then-is_some g c =
    stuck_went c.args.manager.now.setting c.args.step c.args.self.now
    (is_stuck c.self.inside.trouble c.args.self.now.trouble (sym c.is_some.ensures ∙ c.if-is_some.true) (ap (λ x. x.trouble) c.self.view_is))

pub returns-in-Err : goal.returns-in-Err
returns-in-Err g c =
    let calm : c.args.self.now.trouble ≡ None =
    is_calm c.self.inside.trouble c.args.self.now.trouble (sym c.is_some.ensures ∙ c.if-is_some.false) (ap (λ x. x.trouble) c.self.view_is) in
    subst (λ (x : AgentModel). Went c.args.manager.now.setting c.args.step (c.args.step + 1) c.args.self.now (record x { trouble = Some c.in-Err.trouble })) (sym c.self-2.view_is)
    (trouble_went c.args.manager.now.setting c.args.step c.in-Err.trouble c.args.self.now c.try_turn.new.self calm c.in-Err.ensures)

pub returns-in_default : goal.returns-in_default
returns-in_default g c =
    let calm : c.args.self.now.trouble ≡ None =
    is_calm c.self.inside.trouble c.args.self.now.trouble (sym c.is_some.ensures ∙ c.if-is_some.false) (ap (λ x. x.trouble) c.self.view_is) in
    turn_went c.args.manager.now.setting c.args.step c.args.self.now c.try_turn.new.self calm c.in_default.ensures
