use Rattle.std.proofs.Common.{◌≡◌, Err, sym, ap, ◌∙◌, subst}
use Rattle.std.proofs.lemmas.Result.{err_from_is_err_and}
use Rattle.aim_driver.specs.Follows.{turn}
use Rattle.aim_agents.specs.declared.agents.Trouble.TheVariants as trouble
use Rattle.aim_agents.specs.Turns.{Tried}
use Rattle.aim_agents.proofs.Turns.{Began, not_begun, begun_made}
use Rattle.aim_agents.proofs.agents.Agent.try_turn.Goals as goal

pub returns-in_err-begin : goal.returns-in_err-begin
returns-in_err-begin g c =
    let p = err_from_is_err_and c.from_residual.result c.from_residual.ensures.1 in
    let is : c.from_residual.result ≡ Err trouble.NoMemory = p.1 ∙ ap (λ t. Err t) p.2 in
    let e = c.in_err-begin.ensures in
    let began : Began c.args.step c.args.self.now c.begin.new.self = record { rest = e.rest; plan = e.plan; last = e.last; whole = e.whole } in
    subst (λ r. Tried c.args.manager.now.setting (turn c.args.self.now.driver.plan c.args.step) c.args.step r c.args.self.now c.begin.new.self) (sym is)
    (not_begun c.args.manager.now.setting c.args.step c.args.self.now c.begin.new.self began)

pub returns : goal.returns
returns g c =
    let e = c.in_ok-begin.ensures in
    let began : Began c.args.step c.args.self.now c.begin.new.self = record { rest = e.rest; plan = e.plan; last = e.last; whole = e.whole } in
    begun_made c.args.manager.now.setting c.args.step c.make_calls.result c.args.self.now c.begin.new.self c.make_calls.new.self began e.begun c.make_calls.ensures
