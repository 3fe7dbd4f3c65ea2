use Rattle.std.proofs.Common.{◌∙◌, sym}
use Rattle.aim_drive_script.proofs.Drafting.{read_name}
use Rattle.aim_mail_script.proofs.Staging.{judged, version_is}
use Rattle.aim_mail_script.proofs.stages.Stage.after.Goals as goal

pub take_line-requires : goal.take_line-requires
take_line-requires c = read_name c.args.bytes.now c.number.result c.in-Ok.line c.in-Ok.ensures

pub returns-in-Ok : goal.returns-in-Ok
returns-in-Ok c before st =
    judged before c.args.bytes.now c.number.result c.in-Ok.line c.take_line.result (version_is before c.args.self st ∙ sym c.version.ensures ∙ sym c.number.ensures.number) c.in-Ok.ensures (c.take_line.ensures before st)
