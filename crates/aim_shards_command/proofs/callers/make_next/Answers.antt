use Rattle.std.proofs.Common.{◌≡◌, ◌≢◌, ◌<◌, length, take, subst, arith}
use Rattle.std.specs.Prelude.{get_or, min}
use Rattle.std.specs.List.{AllWithin}
use Rattle.std.proofs.lemmas.Option.{slice_get-get_or}
use Rattle.aim_shards_command.specs.declared.lines.ShardLine.TheVariants as line
use Rattle.aim_shards_command.specs.Said.{asked_of}
use Rattle.aim_shards_command.specs.Following.{Follows}
use Rattle.aim_shards_command.proofs.Calls.{can_in, follows_next}
use Rattle.aim_shards_command.proofs.Marks.{as_long, follows_over}
use Rattle.aim_shards_command.proofs.callers.make_next.Goals as goal

pub returns-then-next-lines-clause-follows : goal.returns-then-next-lines-clause-follows
returns-then-next-lines-clause-follows g c =
    let p = c.next_place-next.ensures in
    let marks = c.args.marks.now in
    let next = c.next_place-next.result in
    follows_over c.args.caller.now.pass.number c.args.lines.now marks c.args.from next c.args.caller.now.pass.mine c.requires.marks p.later p.within
    (subst (λ n. AllWithin (λ m. m ≢ min n 255) marks c.args.from next) c.number.ensures p.passed) c.requires.follows

pub make-requires-clause-can : goal.make-requires-clause-can
make-requires-clause-can g c κs within a e =
    let p = c.next_place-next.ensures in
    let lines = c.args.lines.now in
    let marks = c.args.marks.now in
    let next = c.next_place-next.result in
    let n = c.args.caller.now.pass.number in
    let none = line.Shards 0 0 0 in
    let count : length marks ≡ length lines = as_long lines marks c.requires.marks in
    let lt : next < length lines = omega (arith, count, p.within, c.if-next-lines.false) in
    let f : Follows (asked_of n (take next lines)) c.args.caller.now.pass.mine =
    follows_over n lines marks c.args.from next c.args.caller.now.pass.mine c.requires.marks p.later p.within
    (subst (λ k. AllWithin (λ m. m ≢ min k 255) marks c.args.from next) c.number.ensures p.passed) c.requires.follows in
    can_in n next lines (get_or lines next none) _ _ a c.requires.script (slice_get-get_or lines next none lt) c.requires.sets f e

pub returns-clause-follows : goal.returns-clause-follows
returns-clause-follows g c =
    let p = c.next_place-next.ensures in
    let lines = c.args.lines.now in
    let marks = c.args.marks.now in
    let next = c.next_place-next.result in
    let n = c.args.caller.now.pass.number in
    let none = line.Shards 0 0 0 in
    let count : length marks ≡ length lines = as_long lines marks c.requires.marks in
    let lt : next < length lines = omega (arith, count, p.within, c.if-next-lines.false) in
    let f : Follows (asked_of n (take next lines)) c.args.caller.now.pass.mine =
    follows_over n lines marks c.args.from next c.args.caller.now.pass.mine c.requires.marks p.later p.within
    (subst (λ k. AllWithin (λ m. m ≢ min k 255) marks c.args.from next) c.number.ensures p.passed) c.requires.follows in
    follows_next n next lines none c.args.caller.now.pass.mine c.make.new.caller.pass.mine lt f c.make.ensures.steps
