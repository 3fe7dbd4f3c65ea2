use Rattle.aim_script_reading.proofs.EndingLemmas.{ran}
use Rattle.aim_grid_script.specs.Verdicts.{grid_rules}
use Rattle.aim_grid_command.specs.Commands.{IsText, status_for}
use Rattle.aim_grid_command.proofs.ShownLemmas.{not_whole, of_whole}
use Rattle.aim_grid_command.proofs.commands.grid.Goals as goal

pub returns-in-Ok : goal.returns-in-Ok
returns-in-Ok g c =
    let e = c.in-Ok.ensures in
    let p = c.put_run.ensures in
    ran grid_rules IsText status_for _ _ c.put_run.result e.most e.needed e.source (of_whole _ c.in-Ok.routes e.reads) e.ended p.sink (p.puts e.reads.lines e.reads.is)

pub returns-in-Err : goal.returns-in-Err
returns-in-Err g c =
    let e = c.in-Err.ensures in
    let p = c.put_ending.ensures in
    not_whole _ _ c.put_ending.result e.most e.needed e.source p.sink c.in-Err.ending e.reads e.short e.read p.ends
