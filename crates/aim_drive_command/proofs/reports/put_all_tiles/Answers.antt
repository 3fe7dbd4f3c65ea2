use Rattle.std.proofs.Common.{◌++◌, map, refl, ap, ◌∙◌}
use Rattle.aim_report.specs.Reports.{all_tiles, tile_lines}
use Rattle.aim_drive.specs.Making.{log_of}
use Rattle.aim_drive_command.specs.Ordered.{log_among}
use Rattle.aim_drive_command.proofs.OrderLemmas.{text_more}
use Rattle.aim_drive_command.proofs.reports.put_all_tiles.Goals as goal

pub loop-vehicle-preserved : goal.loop-vehicle-preserved
loop-vehicle-preserved c =
    let out = c.loop-vehicle.out.items in
    let v = c.loop-vehicle.vehicle in
    let i = c.args.layout.now in
    let h = c.args.drove.now.journal.items in
    text_more (tile_lines i h) (all_tiles i h) refl (λ x xs. refl) (map log_of c.args.drove.now.logs.items) v c.args.vehicles out c.put_tiles.new.out.items _ c.loop-vehicle-test.true
    (c.in_ok-put_tiles.ensures
    ∙ ap (λ x. out ++ tile_lines i x v c.log_among-log.result.now) c.deref-in-loop-vehicle.ensures.value
    ∙ ap (λ x. out ++ tile_lines i h v x) (c.log_among-log.ensures.log ∙ ap (λ y. log_among v (map log_of y)) c.deref.ensures.value)) c.loop-vehicle.invariant
