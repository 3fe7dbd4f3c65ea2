use Rattle.std.proofs.Common.{Err, ap, arith, refl}
use Rattle.std.proofs.KnownBytes.{Appends-nil}
use Rattle.aim_messages.specs.Texts.{spaced}
use Rattle.aim_script_reading.proofs.EndingLemmas.{failed, forgone, ran, told}
use Rattle.aim_shards_command.specs.ClaimTexts.{printed, refused_words, status_of}
use Rattle.aim_shards_command.specs.Commands.{IsText, status_for}
use Rattle.aim_shards_command.specs.Verdicts.{claim_rules}
use Rattle.aim_shards_command.proofs.Promises.{is_refusal, not_zero, of_refused, of_whole}
use Rattle.aim_shards_command.proofs.commands.shards.Goals as goal

pub returns-in-Some : goal.returns-in-Some
returns-in-Some g c =
    let e = c.in-Ok.ensures in
    let r = c.in-Some.refused in
    let p = c.put_refused.ensures in
    told claim_rules IsText status_for _ _ c.put_refused.result e.most e.needed e.source (printed (spaced (refused_words r))) (status_of r) (is_refusal r)
    (of_refused _ c.in-Ok.read.script c.in-Ok.read.refused r e.verdict c.in-Some.is) (λ zero. not_zero r zero) p.sink p.puts

pub returns-in-Ok : goal.returns-in-Ok
returns-in-Ok g c =
    let e = c.in-Ok.ensures in
    let p = c.put_run.ensures in
    ran claim_rules IsText status_for _ _ c.put_run.result e.most e.needed e.source (of_whole _ c.in-Ok.read.script c.in-Ok.read.refused e.verdict c.in-None.is) (e.ended c.in-None.is) p.sink p.puts

pub returns-in-Err-Read : goal.returns-in-Err-Read
returns-in-Err-Read g c =
    let e = c.in-Err-Read.ensures in
    failed claim_rules IsText status_for _ _ 4 e.most e.needed e.source refl refl (omega arith) (e.short (ap Err c.in-Err-Read.field-0-is)) (e.read (ap Err c.in-Err-Read.field-0-is))

pub returns : goal.returns
returns g c =
    let e = c.in-Err-Halt.ensures in
    forgone claim_rules IsText status_for _ _ 7 e.most e.needed e.source refl refl (omega arith)
