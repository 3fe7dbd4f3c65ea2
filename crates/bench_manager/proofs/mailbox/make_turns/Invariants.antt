use Rattle.aim_mail.specs.Calls.{IsSameClient}
use Rattle.aim_requests.specs.Shapes.{ArePreparedFor}
use Rattle.bench_manager.proofs.mailbox.make_turns.Given as goal

-- the client stays the same client, and the shapes those of the layout
abbrev pub invariant-loop : goal.invariant-loop
invariant-loop g l = record {
  same : IsSameClient l.initial.client l.client;
  known : ArePreparedFor l.layout l.shapes;
}
