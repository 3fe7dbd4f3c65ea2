use Rattle.std.proofs.Common.{subst, ◌∙◌, List}
use Rattle.aim_messages.specs.declared.script.Line.{Line}
use Rattle.aim_drive_script.specs.Drafts.{GoesTo}
use Rattle.aim_drive_script.proofs.Drafting.{not_taken}
use Rattle.aim_drive_script.proofs.drafts.DraftLineTaker.take.Goals as goal

pub returns-in-Ok : goal.returns-in-Ok
returns-in-Ok c first before st = subst (λ (ls : List Line). GoesTo ls c.args.bytes.now c.in-Ok.next) (c.replace-draft.ensures.value ∙ st) c.in-Ok.ensures

pub returns-in-Err : goal.returns-in-Err
returns-in-Err c first before st = not_taken _ before c.args.bytes.now c.in-Err.why _ (c.replace-draft.ensures.value ∙ st) c.in-Err.ensures
