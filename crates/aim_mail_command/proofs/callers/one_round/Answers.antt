use Rattle.std.proofs.Common.{◌<◌, ◌||◌, nat_lt, length, sym, subst, arith}
use Rattle.std.proofs.lemmas.Bool.{ltb-false}
use Rattle.aim_mail_command.specs.declared.callers.Caller.{Caller}
use Rattle.aim_mail_command.specs.Calling.{Stepped, Went, Works}
use Rattle.aim_mail_command.proofs.Places.{done_all, done_as, done_more}
use Rattle.aim_mail_command.proofs.Steps.{went_before, went_now}
use Rattle.aim_mail_command.proofs.callers.one_round.Goals as goal

pub step-requires-clause-works : goal.step-requires-clause-works
step-requires-clause-works g c =
    let n = c.loop-caller.caller-index in
    let len = c.loop-caller.invariant.len in
    subst (λ (x : Caller). Works c.args.layout.now c.args.events.now x) (sym (c.loop-caller.invariant.others n c.caller-item.result (omega arith))) (c.requires.works n c.caller-item.result (omega (arith, len)))

pub loop-caller-preserved : goal.loop-caller-preserved
loop-caller-preserved g c =
    let i = c.args.layout.now in
    let es = c.args.events.now in
    let left = c.loop-caller.left in
    let more = nat_lt c.step.new.caller.place (length es) in
    let lt : c.loop-caller.caller-index < length c.loop-caller.callers = omega arith in
    let before = done_as (Went i es left) (Went i es (left || more)) c.loop-caller.caller-index c.args.callers.now c.loop-caller.callers c.loop-caller.invariant (went_before i es left more) in
    done_more (Went i es (left || more)) c.loop-caller.caller-index c.args.callers.now c.loop-caller.callers c.caller-item.result c.step.new.caller before lt c.caller-item.is
    (went_now i es left more c.caller-item.result c.step.new.caller (subst (λ (x : Caller). Stepped i es x c.step.new.caller) (sym c.caller-item.is) c.step.ensures) (ltb-false c.step.new.caller.place (length es)))

pub returns : goal.returns
returns g c = done_all (Went c.args.layout.now c.args.events.now c.loop-caller.left) c.loop-caller.caller-index c.args.callers.now c.loop-caller.callers c.loop-caller.invariant (let len = c.loop-caller.invariant.len in omega (arith, len))
