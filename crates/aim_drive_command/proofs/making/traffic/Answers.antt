use Rattle.std.proofs.Common.{refl}
use Rattle.aim_drive_command.proofs.Scripts.{script_fits, script_is}
use Rattle.aim_drive_command.proofs.making.traffic.Goals as goal

pub returns-clause-script : goal.returns-clause-script
returns-clause-script c = script_is c.args.number c.args.count _ c.requires.count.0 c.requires.count.1 c.in_ok-layout.ensures refl refl c.in_ok-plans.ensures c.new.ensures.items

pub returns-clause-fits : goal.returns-clause-fits
returns-clause-fits c = script_fits c.args.number c.args.count _ c.requires.count.0 c.requires.count.1
    (script_is c.args.number c.args.count _ c.requires.count.0 c.requires.count.1 c.in_ok-layout.ensures refl refl c.in_ok-plans.ensures c.new.ensures.items)
