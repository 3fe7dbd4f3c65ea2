use Rattle.std.proofs.Common.{◌++◌, map, refl, ap, ◌∙◌}
use Rattle.aim_report.specs.Reports.{all_logs, log_lines}
use Rattle.aim_drive.specs.Making.{log_of}
use Rattle.aim_drive_command.proofs.OrderLemmas.{text_more}
use Rattle.aim_drive_command.proofs.reports.put_logs.Goals as goal

pub loop-vehicle-preserved : goal.loop-vehicle-preserved
loop-vehicle-preserved c =
    let out = c.loop-vehicle.out.items in
    text_more log_lines all_logs refl (λ x xs. refl) (map log_of c.args.logs.now) c.loop-vehicle.vehicle c.args.vehicles out c.put_log.new.out.items _ c.loop-vehicle-test.true
    (c.in_ok-put_log.ensures ∙ ap (λ l. out ++ log_lines c.loop-vehicle.vehicle l) c.log_among.ensures.log) c.loop-vehicle.invariant
