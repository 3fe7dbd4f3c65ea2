use Rattle.std.proofs.Common.{◌≡◌, ℕ, ◌+◌, ◌++◌, ◌∷◌, [], List, length, take, sym, ap, subst, arith}
use Rattle.std.proofs.lemmas.Iterator.Adapters.{YieldsList-from_vec}
use Rattle.std.proofs.lemmas.Iterator.Consumers.{YieldsList-turn, YieldsList-end}
use Rattle.std.proofs.lemmas.List.{length_push, take_all}
use Rattle.aim_drive_script.specs.declared.scripts.Planned.{Planned}
use Rattle.aim_agents.specs.Agents.{AgentModel, AgentPass}
use Rattle.aim_drive.specs.Making.{AreAgentsFor, AreLeft, IsMadeOf}
use Rattle.aim_drive.proofs.Seats.{contains_pass, taken_new, made_next, left_more}
use Rattle.aim_drive.proofs.making.agents_of.Goals as goal

pub take_pass-pass-requires : goal.take_pass-pass-requires
take_pass-pass-requires c =
    let i = c.loop-planned.invariant in
    let gives = c.into_iter-planned-iterator.ensures.into_iter_gives in
    let t = YieldsList-turn (YieldsList-from_vec {s = c.into_iter-planned-iterator.result} c.args.plans.items gives.0 (omega (arith, gives.1))) c.loop-planned.yielded c.loop-planned.planned-iterator c.loop-planned.yielded_by c.next.result c.next.new.self c.in-Some.planned c.in-Some.is c.next.ensures.steps in
    contains_pass c.args.manager.now c.args.spans c.args.plans.items (length c.loop-planned.yielded) c.in-Some.planned c.loop-planned.agents.items c.loop-planned.passes.items
    c.requires.plans i.made i.left t.0 t.1

pub agent_of-requires-clause-pass : goal.agent_of-requires-clause-pass
agent_of-requires-clause-pass c =
    ap (λ (p : AgentPass). p.mine) (taken_new c.args.manager.now c.loop-planned.agents.items c.loop-planned.passes.items c.take_pass-pass.new.passes.items c.in-Some.planned.vehicle c.take_pass-pass.result
    c.loop-planned.invariant.left c.take_pass-pass.ensures)

pub loop-planned-preserved : goal.loop-planned-preserved
loop-planned-preserved c =
    let i = c.loop-planned.invariant in
    let gives = c.into_iter-planned-iterator.ensures.into_iter_gives in
    let t = YieldsList-turn (YieldsList-from_vec {s = c.into_iter-planned-iterator.result} c.args.plans.items gives.0 (omega (arith, gives.1))) c.loop-planned.yielded c.loop-planned.planned-iterator c.loop-planned.yielded_by c.next.result c.next.new.self c.in-Some.planned c.in-Some.is c.next.ensures.steps in
    let m = c.args.manager.now in
    let plans = c.args.plans.items in
    let xs = c.loop-planned.agents.items in
    let p = c.push_reserved.ensures in
    let a = c.in_ok-agent_of.field-0 in
    let x = c.in_ok-agent_of.ensures in
    let new = taken_new m xs c.loop-planned.passes.items c.take_pass-pass.new.passes.items c.in-Some.planned.vehicle c.take_pass-pass.result i.left c.take_pass-pass.ensures in
    let n : length (c.loop-planned.yielded ++ c.in-Some.planned ∷ []) ≡ length c.loop-planned.yielded + 1 = length_push c.loop-planned.yielded c.in-Some.planned in
    record {
      count = omega (arith, p.len, i.count, n);
      room = omega (arith, p.capacity, i.room);
      made =
          subst (λ (l : List AgentModel). AreAgentsFor m c.args.spans (take (length (c.loop-planned.yielded ++ c.in-Some.planned ∷ [])) plans) l) (sym p.items)
          (subst (λ (k : ℕ). AreAgentsFor m c.args.spans (take k plans) (xs ++ a ∷ [])) (sym n)
          (made_next m c.args.spans plans (length c.loop-planned.yielded) c.in-Some.planned xs a t.0 t.1 i.made (subst (λ (s : AgentPass). IsMadeOf c.in-Some.planned s c.args.spans a) new x)));
      left =
          subst (λ (l : List AgentModel). AreLeft m l c.take_pass-pass.new.passes.items) (sym p.items)
          (left_more m xs a c.loop-planned.passes.items c.take_pass-pass.new.passes.items c.in-Some.planned.vehicle c.take_pass-pass.result i.left c.take_pass-pass.ensures x.pass);
    }

pub returns-clause-agents : goal.returns-clause-agents
returns-clause-agents c =
    let gives = c.into_iter-planned-iterator.ensures.into_iter_gives in
    let t = YieldsList-end (YieldsList-from_vec {s = c.into_iter-planned-iterator.result} c.args.plans.items gives.0 (omega (arith, gives.1))) c.loop-planned.yielded c.loop-planned.planned-iterator c.loop-planned.yielded_by c.next.result c.next.new.self c.in-None.is c.next.ensures.steps in
    subst (λ (ps : List Planned). AreAgentsFor c.args.manager.now c.args.spans ps c.loop-planned.agents.items) (take_all (length c.loop-planned.yielded) c.args.plans.items (omega (arith, t.1))) c.loop-planned.invariant.made
