use Rattle.std.proofs.Common.{get_or, take}
use Rattle.std.proofs.lemmas.Option.{slice_get-get_or}
use Rattle.aim_messages.specs.declared.script.Line.TheVariants as line
use Rattle.aim_text_session.proofs.HeadingLemmas.{header_next}
use Rattle.aim_text_session.proofs.headings.header_of.Goals as goal

pub heard-requires : goal.heard-requires
heard-requires c =
    let lines = c.args.lines.now in let k = c.loop-line.line-index in let l = get_or lines k (line.Version 0) in
    (take k lines, c.loop-line.invariant, c.requires k l (slice_get-get_or lines k (line.Version 0) c.loop-line-test.true))

pub loop-line-preserved : goal.loop-line-preserved
loop-line-preserved c =
    let lines = c.args.lines.now in let k = c.loop-line.line-index in let l = get_or lines k (line.Version 0) in
    let at = slice_get-get_or lines k (line.Version 0) c.loop-line-test.true in
    header_next lines k l c.in_ok-header.header at (c.in_ok-header.ensures (take k lines) c.loop-line.invariant (c.requires k l at))
