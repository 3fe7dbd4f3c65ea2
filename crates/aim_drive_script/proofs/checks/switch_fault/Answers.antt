use Rattle.std.proofs.Common.{ap, sym, ◌∙◌}
use Rattle.std.specs.Prelude.{is_some}
use Rattle.aim_script.specs.declared.decisions.Kind.TheVariants as kind
use Rattle.aim_drive_script.specs.Drafts.{kind_if}
use Rattle.aim_drive_script.proofs.Naming.{has_name, unnamed}
use Rattle.aim_drive_script.proofs.checks.switch_fault.Goals as goal

pub returns-then-is_none : goal.returns-then-is_none
returns-then-is_none c = unnamed c.args.lines.now c.args.setting.now.names c.args.moment c.args.name.now c.requires.opened.named (sym (ap is_some c.number.ensures) ∙ c.if-is_none.ensures)

pub returns : goal.returns
returns c =
    c.kind_if.ensures ∙ ap (λ b. kind_if b kind.Moment) c.is_bad_order.ensures
    ∙ has_name c.args.lines.now c.args.setting.now.names c.args.moment c.args.name.now c.requires.opened.named (sym (ap is_some c.number.ensures) ∙ c.if-is_none.ensures)
