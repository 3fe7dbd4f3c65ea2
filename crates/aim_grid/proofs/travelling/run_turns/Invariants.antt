use Rattle.aim_grid.proofs.Runs.{Turned}
use Rattle.aim_grid.proofs.travelling.run_turns.Given as goal

abbrev pub invariant-loop-traveller : goal.invariant-loop-traveller
invariant-loop-traveller g l = Turned l.managers l.step l.traveller-index l.initial.travellers l.travellers
