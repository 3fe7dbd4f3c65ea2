use Rattle.aim_requests.specs.Shapes.{ArePreparedFor}
use Rattle.aim_turnstile.specs.Models.{IsSamePass}
use Rattle.bench_manager.proofs.turns.make_turns.Given as goal

-- the pass stays the same pass, and the shapes those of the layout
abbrev pub invariant-loop : goal.invariant-loop
invariant-loop g l = record {
  same : IsSamePass l.initial.pass l.pass;
  known : ArePreparedFor l.manager.setting.layout l.shapes;
}
