use Rattle.std.proofs.Common.{◌≡◌, ◌+◌, length, sym, ◌∙◌, subst, arith}
use Rattle.std.proofs.lemmas.Bool.{eqb-true}
use Rattle.aim_grid.specs.Travels.{Travels}
use Rattle.aim_grid.proofs.Wakes.{going_idle}
use Rattle.aim_grid.proofs.Runs.{travels_none, travels_then, no_travellers, all_ready}
use Rattle.aim_grid.proofs.travelling.travel.Goals as goal

pub loop-step-init : goal.loop-step-init
loop-step-init g c = record {
  travels = travels_none c.args.managers.now c.args.from c.args.travellers.now c.requires.ready;
  idle = λ k d l t lo hi. absurd (omega arith);
}

pub turns-requires-clause-ready : goal.turns-requires-clause-ready
turns-requires-clause-ready g c κs within =
    all_ready c.args.managers.now c.args.from c.loop-step.step c.args.travellers.now c.loop-step.travellers c.loop-step.invariant.travels

pub loop-step-preserved : goal.loop-step-preserved
loop-step-preserved g c = record {
  travels = travels_then c.args.managers.now c.args.from c.loop-step.step (c.loop-step.step + 1) c.args.travellers.now c.loop-step.travellers c.turns.new.travellers c.loop-step.invariant.travels c.turns.ensures;
  idle = c.wakes_at-wake.ensures;
}

pub loop-step-preserved-then-step-wake : goal.loop-step-preserved-then-step-wake
loop-step-preserved-then-step-wake g c =
    going_idle c.args.managers.now c.args.from c.loop-step.step c.loop-step.wake c.args.travellers.now c.loop-step.travellers (omega arith) c.loop-step.invariant

pub returns : goal.returns
returns g c =
    let e : c.loop-step.step ≡ c.args.to = omega arith in
    subst (λ n. Travels c.args.managers.now c.args.from n c.args.travellers.now c.loop-step.travellers) e c.loop-step.invariant.travels

pub returns-then-is_empty : goal.returns-then-is_empty
returns-then-is_empty g c =
    let e : length c.args.travellers.now ≡ 0 = eqb-true _ _ (sym c.is_empty.ensures ∙ c.if-is_empty.true) in
    no_travellers c.args.managers.now c.args.from c.args.to c.args.travellers.now e
