use Rattle.std.proofs.Common.{ap, sym, ◌∙◌}
use Rattle.aim_script.specs.Said.{version_after}
use Rattle.aim_drive_script.proofs.Drafting.{read_name, judged_line, judged_unread}
use Rattle.aim_drive_script.proofs.drafts.Draft.after.Goals as goal

pub take_line-requires : goal.take_line-requires
take_line-requires c = read_name c.args.bytes.now c.number-version.result c.in-Ok.line c.in-Ok.ensures

pub returns-in-Ok : goal.returns-in-Ok
returns-in-Ok c =
    let version = ap version_after (sym c.self.view_is ∙ sym c.deref.ensures.value) ∙ sym c.version.ensures ∙ sym c.number-version.ensures.number in
    judged_line c.args.self c.args.bytes.now c.number-version.result c.in-Ok.line c.take_line.result version c.in-Ok.ensures c.take_line.ensures

pub returns-in-Err : goal.returns-in-Err
returns-in-Err c =
    let version = ap version_after (sym c.self.view_is ∙ sym c.deref.ensures.value) ∙ sym c.version.ensures ∙ sym c.number-version.ensures.number in
    judged_unread c.args.self c.args.bytes.now c.number-version.result c.in-Err.kind version c.in-Err.ensures
