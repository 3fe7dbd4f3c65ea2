use Rattle.aim_script_reading.proofs.EndingLemmas.{ran}
use Rattle.aim_drive_script.specs.Verdicts.{drive_rules}
use Rattle.aim_drive_command.specs.Commands.{IsText, status_for}
use Rattle.aim_drive_command.proofs.ShownLemmas.{not_whole, of_whole}
use Rattle.aim_drive_command.proofs.commands.drive.Goals as goal

pub put_run-requires-clause-script : goal.put_run-requires-clause-script
put_run-requires-clause-script g c κs _ = c.in-Ok.ensures.fits

pub put_run-requires-clause-workers : goal.put_run-requires-clause-workers
put_run-requires-clause-workers g c κs _ = c.requires.workers

pub returns-in-Ok : goal.returns-in-Ok
returns-in-Ok g c =
    let e = c.in-Ok.ensures in
    let p = c.put_run.ensures in
    ran drive_rules (IsText c.args.workers) status_for _ _ c.put_run.result e.most e.needed e.source (of_whole c.args.workers _ c.in-Ok.script e.reads) e.ended p.sink (p.puts e.reads.lines e.reads.is)

pub returns-in-Err : goal.returns-in-Err
returns-in-Err g c =
    let e = c.in-Err.ensures in
    let p = c.put_ending.ensures in
    not_whole c.args.workers _ _ c.put_ending.result e.most e.needed e.source p.sink c.in-Err.ending e.reads e.short e.read p.ends
