use Rattle.std.proofs.Common.{◌≤◌, List, take}
use Rattle.std.specs.Prelude.{flat_map}
use Rattle.std.specs.Io.KnownBytes.{Appends}
use Rattle.aim_messages.specs.declared.script.Line.{Line}
use Rattle.aim_line_session.specs.Sessions.{Stands, journal_so_far}
use Rattle.aim_replay.specs.Charted.{row_text}
use Rattle.aim_replay.proofs.ChartLemmas.{rows_of}
use Rattle.aim_replay.proofs.charts.put_chart.Given as goal

abbrev pub invariant-loop-k : goal.invariant-loop-k
invariant-loop-k g l = record {
  written : (before : List Line) → Stands before l.session → Appends (g.K.Sink.held l.fn.sink) (g.K.Sink.held l.sink) (flat_map (row_text l.session.server.layout (journal_so_far before) l.step) (take l.k (rows_of l.session.server.layout)));
  later : g.K.Sink.faults l.fn.sink ≤ g.K.Sink.faults l.sink;
}
