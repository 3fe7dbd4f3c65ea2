use Rattle.std.proofs.Common.{◌≡◌, take, sym, ◌∙◌, subst, arith}
use Rattle.std.proofs.lemmas.List.{take_all}
use Rattle.aim_shards_command.specs.Said.{asked_of}
use Rattle.aim_shards_command.specs.Following.{Follows}
use Rattle.aim_shards_command.proofs.callers.make_all.Goals as goal

pub make_next-place-requires-clause-follows : goal.make_next-place-requires-clause-follows
make_next-place-requires-clause-follows g c κs within =
    let i = c.loop-place.invariant in
    subst (λ n. Follows (asked_of n (take c.loop-place.place c.args.lines.now)) c.loop-place.caller.pass.mine) (sym i.number) i.follows

pub loop-place-preserved : goal.loop-place-preserved
loop-place-preserved g c =
    let i = c.loop-place.invariant in
    let e = c.make_next-place.ensures in record {
      works = e.works;
      number = e.number ∙ i.number;
      within = e.within;
      follows = subst (λ n. Follows (asked_of n (take c.make_next-place.result c.args.lines.now)) c.make_next-place.new.caller.pass.mine) i.number e.follows;
    }

pub returns-clause-follows : goal.returns-clause-follows
returns-clause-follows g c =
    let i = c.loop-place.invariant in
    let lines = c.args.lines.now in
    let whole : take c.loop-place.place lines ≡ lines = take_all c.loop-place.place lines (omega (arith, c.loop-place-test.false)) in
    subst (λ n. Follows (asked_of n lines) c.loop-place.caller.pass.mine) (sym i.number)
    (subst (λ ls. Follows (asked_of c.args.caller.now.pass.number ls) c.loop-place.caller.pass.mine) whole i.follows)
