use Rattle.std.proofs.Common.{ap, ◌∙◌}
use Rattle.std.specs.Option.{option_copied}
use Rattle.aim_drive_script.specs.Drafts.{is_open}
use Rattle.aim_drive_script.proofs.Placing.{place_is, out_of_place, in_place}
use Rattle.aim_drive_script.proofs.checks.is_out_of_order.Goals as goal

pub belongs-requires : goal.belongs-requires
belongs-requires c = ap is_open (place_is c.args.lines.now (option_copied c.last.result) c.place_after.result c.last.ensures.value c.place_after.ensures) ∙ c.requires.place

pub returns-then-not-belongs : goal.returns-then-not-belongs
returns-then-not-belongs c =
    let at = place_is c.args.lines.now (option_copied c.last.result) c.place_after.result c.last.ensures.value c.place_after.ensures in
    out_of_place c.args.lines.now c.args.line.now c.place_after.result c.belongs.result at c.belongs.ensures c.if-not-belongs.true

pub returns-else-not-belongs : goal.returns-else-not-belongs
returns-else-not-belongs c =
    let at = place_is c.args.lines.now (option_copied c.last.result) c.place_after.result c.last.ensures.value c.place_after.ensures in
    in_place c.args.lines.now c.args.line.now c.place_after.result c.belongs.result c.lacks_plan.result at c.belongs.ensures c.if-not-belongs.false c.lacks_plan.ensures
