use Rattle.std.proofs.Common.{◌-◌}
use Rattle.aim_script_reading.proofs.Between.{Between}
use Rattle.aim_script_reading.proofs.reading.read_script.Given as goal

abbrev pub invariant-lines : goal.invariant-lines
invariant-lines g l = Between g.T.LineTaker.rules (g.T.LineTaker.stands l.fn.taker) g.S.Source.left g.S.Source.last_read g.S.Source.faults l.fn.source l.source l.reader l.taker l.number

abbrev pub decreases-lines : goal.decreases-lines
decreases-lines g l = 262144 - l.number
