use Rattle.std.proofs.Common.{◌≡◌, ◌+◌, ◌<◌, ◌≤◌, Err, sym, ap, ◌∙◌, subst, arith}
use Rattle.std.proofs.lemmas.Result.{err_from_is_err_and}
use Rattle.aim_messages.specs.declared.messages.Message.{Message}
use Rattle.aim_driver.specs.Links.{LinkModel, under_way, after_delivery}
use Rattle.aim_driver.specs.Follows.{calling}
use Rattle.aim_driver.proofs.LinkLemmas.{fewer}
use Rattle.aim_agents.specs.Turns.{Tried}
use Rattle.aim_agents.proofs.Turns.{none_made, one_more, all_made, not_made}
use Rattle.aim_agents.proofs.agents.Agent.make_calls.Goals as goal

pub loop-message-init : goal.loop-message-init
loop-message-init g c = none_made c.args.manager.now.setting c.args.step c.args.self.now c.requires.whole c.requires.last

pub loop-message-smaller : goal.loop-message-smaller
loop-message-smaller g c =
    let less : under_way (after_delivery c.loop-message.self.up c.args.step) + 1 ≤ under_way c.loop-message.self.up =
    fewer c.loop-message.self.up c.args.step c.in-Some.message (sym c.in-Some.ensures.message) in
    let up : c.call.new.self.up ≡ after_delivery c.loop-message.self.up c.args.step = c.call.ensures.up ∙ ap (λ x. x.up) c.in-Some.ensures.rest in
    let P : LinkModel Message → Type 0 = λ d. under_way d < under_way c.loop-message.self.up in
    subst P (sym up) (omega arith)

pub loop-message-preserved : goal.loop-message-preserved
loop-message-preserved g c =
    one_more c.args.manager.now.setting c.args.step c.in-Some.message c.args.self.now c.loop-message.self c.next_message.new.self c.call.new.self
    c.loop-message.invariant (sym c.in-Some.ensures.message) c.in-Some.ensures.rest c.in_ok-call.ensures

pub returns-in_err-call : goal.returns-in_err-call
returns-in_err-call g c =
    let p = err_from_is_err_and c.from_residual.result c.from_residual.ensures.1 in
    let is : c.from_residual.result ≡ Err c.in_err-call.field-0.0 = p.1 ∙ ap (λ t. Err t) p.2 in
    let set = ap (λ x. x.pass.setting) c.in-Some.ensures.rest ∙ c.loop-message.invariant.same.setting ∙ c.requires.own.pass.setting in
    subst (λ r. Tried c.args.manager.now.setting (calling c.args.step) c.args.step r c.args.self.now c.call.new.self) (sym is)
    (not_made c.args.manager.now.setting c.args.step c.in-Some.message c.in_err-call.field-0.0 c.args.self.now c.loop-message.self c.next_message.new.self c.call.new.self
    c.loop-message.invariant (sym c.in-Some.ensures.message) c.in-Some.ensures.rest set c.in_err-call.ensures)

pub returns : goal.returns
returns g c = all_made c.args.manager.now.setting c.args.step c.args.self.now c.loop-message.self c.next_message.new.self c.loop-message.invariant (sym c.in_default.ensures.message) c.in_default.ensures.none
