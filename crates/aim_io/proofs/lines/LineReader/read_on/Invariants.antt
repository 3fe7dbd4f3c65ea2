use Rattle.std.proofs.Common.{◌-◌, ◌≤◌, length, take, ◌+◌}
use Rattle.aim_io.specs.Lines.{IsOpen}
use Rattle.aim_io.specs.Look.{ReadOn}
use Rattle.aim_io.proofs.lines.LineReader.read_on.Given as goal

abbrev pub invariant-pieces : goal.invariant-pieces
invariant-pieces g l = record {
  on : ReadOn g.S.Source.left g.S.Source.faults g.S.Source.last_read l.fn.self l.self l.fn.source l.source;
  within : l.self.place + l.seen ≤ 67108864;
  in_range : l.seen ≤ length l.self.held;
  is_open : IsOpen (take l.seen l.self.held);
}

abbrev pub decreases-pieces : goal.decreases-pieces
decreases-pieces g l = 401 - length l.self.held
