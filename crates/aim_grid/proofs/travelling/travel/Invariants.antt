use Rattle.aim_grid.proofs.Wakes.{Going}
use Rattle.aim_grid.proofs.travelling.travel.Given as goal

abbrev pub invariant-loop-step : goal.invariant-loop-step
invariant-loop-step g l = Going l.managers l.from l.step l.wake l.fn.travellers l.travellers
