use Rattle.std.proofs.Common.{[], ◌∷◌, ◌++◌}
use Rattle.aim_messages.specs.declared.script.Line.TheVariants as line
use Rattle.aim_text_session.proofs.HeadingLemmas.{began}
use Rattle.aim_text_session.proofs.headings.opened.Goals as goal

pub returns-in-Ok : goal.returns-in-Ok
returns-in-Ok c lines st counted =
    let n = c.args.vehicles in
    began lines n c.in_ok-setting.setting c.in-Ok.session (c.in-Ok.ensures (lines ++ line.Vehicles n ∷ []) (c.in_ok-setting.ensures lines st counted).set)
