use Rattle.std.proofs.Common.{◌==◌, ◌∙◌, ap, sym}
use Rattle.std.proofs.lemmas.Bool.{eq-eqb}
use Rattle.aim_script.specs.Versions.{version_number}
use Rattle.aim_grid_script.proofs.Staging.{end_falls, end_whole}
use Rattle.aim_grid_script.proofs.stages.ended.Goals as goal

pub returns-then-same : goal.returns-then-same
returns-then-same c block st =
    let version = ap version_number (sym c.version.ensures) ∙ sym c.number-version.ensures.number ∙ sym c.from.ensures in
    end_whole block c.args.header c.args.number c.in-Ok-Whole.setting st (ap (λ v. c.args.number == v) version ∙ eq-eqb c.args.number c.from.result c.if-same.true) (rw c.in-Ok-Whole.field-0-is at (c.in-Ok-Whole.ensures block st))

pub returns-in-Err : goal.returns-in-Err
returns-in-Err c block st =
    let version = ap version_number (sym c.version.ensures) ∙ sym c.number-version.ensures.number ∙ sym c.from.ensures in
    rw c.ending.ensures (end_falls block c.args.header c.args.number (c.args.number == c.from.result) c.in-Err.why st (ap (λ v. c.args.number == v) version) (c.in-Err.ensures block st))
