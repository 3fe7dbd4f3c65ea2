use Rattle.aim_requests.specs.Shapes.{ArePreparedFor}
use Rattle.tests_simulation.proofs.shapes.requests_from_shapes_are_those_without.Given as goal

abbrev pub invariant-loop-params : goal.invariant-loop-params
invariant-loop-params g l = ArePreparedFor l.layout l.shapes
