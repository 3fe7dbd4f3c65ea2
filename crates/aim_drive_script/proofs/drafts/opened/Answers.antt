use Rattle.std.proofs.Common.{◌∙◌, sym}
use Rattle.aim_drive_script.proofs.Drafting.{opened_more}
use Rattle.aim_drive_script.proofs.drafts.opened.Goals as goal

pub returns : goal.returns
returns c =
    let kind = sym c.fault.ensures ∙ c.in_default.is in
    (kind, sym c.limit.ensures ∙ c.in_default-limit.is, opened_more c.args.lines.now c.args.line.now c.args.setting c.requires.opened kind)
