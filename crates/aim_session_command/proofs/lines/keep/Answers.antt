use Rattle.std.proofs.Common.{◌∙◌, arith}
use Rattle.aim_session_command.proofs.LineLemmas.{kept_full, kept_more}
use Rattle.aim_session_command.proofs.lines.keep.Goals as goal

pub returns-then-len-lt-KEPT : goal.returns-then-len-lt-KEPT
returns-then-len-lt-KEPT c all is = c.push.ensures.items ∙ kept_more all c.args.line.now.items c.args.byte (omega (arith, c.if-len-lt-KEPT.true, c.len.ensures)) is

pub returns-else-len-lt-KEPT : goal.returns-else-len-lt-KEPT
returns-else-len-lt-KEPT c all is = kept_full all c.args.line.now.items c.args.byte (omega (arith, c.if-len-lt-KEPT.false, c.len.ensures)) is
