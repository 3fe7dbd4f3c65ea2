use Rattle.std.proofs.Common.{arith, map}
use Rattle.std.specs.Prelude.{All}
use Rattle.aim_safety.specs.Tiles.{EntersBy}
use Rattle.aim_report.specs.Told.{IsItem}
use Rattle.aim_drive.specs.Making.{log_of}
use Rattle.aim_drive_command.proofs.OwnTiles.{all_told}
use Rattle.aim_drive_command.proofs.RunLemmas.{AreValues, if_ok, is_report}
use Rattle.aim_drive_command.proofs.commands.text_over.Goals as goal

pub returns : goal.returns
returns g c = λ lines is.
    let h = c.in_ok-drove.drove.journal.items in
    let logs = c.in_ok-drove.drove.logs.items in
    let e = c.report_of.ensures in
    let vehicles = c.requires.script.few_vehicles in
    let orders = c.requires.script.few_orders in
    let few = c.in_ok-drove.ensures.few in
    let values : AreValues c.args.workers lines c.args.script is h (map log_of logs) = record {
      vehicles = omega (arith, vehicles);
      few = omega (arith, few, vehicles, orders);
      entries = e.entries;
      items = all_told (All IsItem) logs e.items;
      enters = all_told (EntersBy 2147483648) logs c.in_ok-drove.ensures.enters;
    } in
    if_ok c.report_of.result
    (λ text told. is_report c.args.workers lines c.args.script is h (map log_of logs) c.args.layout.now text.items c.requires.layout e.valid values told c.in_ok-drove.ensures.headline)
    e.text
