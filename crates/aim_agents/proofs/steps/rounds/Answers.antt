use Rattle.std.proofs.Common.{◌≡◌, length, inl, inr, refl, sym, ◌∙◌, subst, arith}
use Rattle.std.proofs.lemmas.Bool.{eqb-true}
use Rattle.aim_agents.specs.Rounds.{Rounding, run_size}
use Rattle.aim_agents.proofs.RoundLaws.{going_on, going_idle, rounds_begin, rounds_end, no_rounds}
use Rattle.aim_agents.proofs.steps.rounds.Goals as goal

pub loop-step-init : goal.loop-step-init
loop-step-init g c = record {
  rounding = subst (λ o. Rounding c.args.manager.now.setting c.args.from c.args.from c.div_ceil-size.result c.args.operator.now o c.args.agents.now c.meet_all.new.agents) (sym c.meet_all.ensures.operator)
      (rounds_begin c.args.manager.now.setting c.args.manager.now c.args.from c.div_ceil-size.result c.args.operator.now c.args.agents.now c.meet_all.new.agents c.requires.agents c.meet_all.ensures.met);
  idle = λ k d l t lo hi. absurd (omega arith);
  begun = λ _. refl;
}

pub loop-step-preserved : goal.loop-step-preserved
loop-step-preserved g c =
    going_on c.args.manager.now.setting c.args.from c.loop-step.step c.wakes_at-wake.result c.div_ceil-size.result c.args.operator.now c.loop-step.operator c.one_step.new.operator
    c.args.agents.now c.loop-step.agents c.one_step.new.agents (omega arith) c.loop-step.invariant.rounding c.one_step.ensures c.wakes_at-wake.ensures

pub loop-step-preserved-then-step-wake : goal.loop-step-preserved-then-step-wake
loop-step-preserved-then-step-wake g c =
    going_idle c.args.manager.now.setting c.args.from c.loop-step.step c.loop-step.wake c.div_ceil-size.result c.args.operator.now c.loop-step.operator
    c.args.agents.now c.loop-step.agents (omega arith) (omega arith) c.loop-step.invariant

pub returns : goal.returns
returns g c =
    let e : c.loop-step.step ≡ c.args.to = omega arith in
    rounds_end c.args.manager.now.setting c.args.from c.loop-step.step c.args.to c.div_ceil-size.result (run_size (length c.args.agents.now) c.args.workers)
    c.args.operator.now c.loop-step.operator c.args.agents.now c.loop-step.agents e c.div_ceil-size.ensures c.loop-step.invariant.rounding

pub returns-then-from-to : goal.returns-then-from-to
returns-then-from-to g c =
    let e : c.args.from ≡ c.args.to = omega arith in
    no_rounds c.args.manager.now.setting c.args.manager.now c.args.from c.args.to (run_size (length c.args.agents.now) c.args.workers) c.args.operator.now c.args.agents.now (inl e) c.requires.agents

pub returns-then-is_empty : goal.returns-then-is_empty
returns-then-is_empty g c =
    let e : length c.args.agents.now ≡ 0 = eqb-true _ _ (sym c.is_empty.ensures ∙ c.if-is_empty.true) in
    no_rounds c.args.manager.now.setting c.args.manager.now c.args.from c.args.to (run_size (length c.args.agents.now) c.args.workers) c.args.operator.now c.args.agents.now (inr e) c.requires.agents
