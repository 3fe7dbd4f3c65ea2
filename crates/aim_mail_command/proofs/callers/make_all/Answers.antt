use Rattle.std.proofs.Common.{◌≡◌, ◌+◌, length, subst, arith}
use Rattle.aim_mail_command.specs.Calling.{AllByPlace, Finished, Reached, Went, Works}
use Rattle.aim_mail_command.proofs.Places.{all_second, by_place_self, by_place_then}
use Rattle.aim_mail_command.proofs.Steps.{reached_all, reached_first, reached_more}
use Rattle.aim_mail_command.proofs.callers.make_all.Goals as goal

pub one_round-requires-clause-works : goal.one_round-requires-clause-works
one_round-requires-clause-works g c =
    let i = c.args.layout.now in
    let es = c.args.events.now in
    all_second (Reached i es c.loop-round.round) (Works i es) c.args.callers.now c.loop-round.callers c.loop-round.invariant (λ a b r. r.works)

pub loop-round-init : goal.loop-round-init
loop-round-init g c =
    let i = c.args.layout.now in
    let es = c.args.events.now in
    by_place_self (Reached i es 0) (Works i es) c.args.callers.now c.requires.works (reached_first i es)

pub loop-round-preserved : goal.loop-round-preserved
loop-round-preserved g c =
    let i = c.args.layout.now in
    let es = c.args.events.now in
    let n = c.loop-round.round in
    by_place_then (Reached i es n) (Went i es c.one_round.result) (Reached i es (n + 1)) c.args.callers.now c.loop-round.callers c.one_round.new.callers c.loop-round.invariant c.one_round.ensures (λ a b d r w. reached_more i es n a b d (omega arith) r w.stepped)

pub returns-then-not-one_round : goal.returns-then-not-one_round
returns-then-not-one_round g c =
    let i = c.args.layout.now in
    let es = c.args.events.now in
    let n = c.loop-round.round in
    by_place_then (Reached i es n) (Went i es c.one_round.result) (Finished i es) c.args.callers.now c.loop-round.callers c.one_round.new.callers c.loop-round.invariant c.one_round.ensures (λ a b d r w. reached_all i es n c.one_round.result a b d c.if-not-one_round.true r w)

pub returns : goal.returns
returns g c =
    let i = c.args.layout.now in
    let es = c.args.events.now in
    let e : c.loop-round.round ≡ length c.args.events.now = omega arith in
    subst (λ n. AllByPlace (Reached i es n) c.args.callers.now c.loop-round.callers) e c.loop-round.invariant
