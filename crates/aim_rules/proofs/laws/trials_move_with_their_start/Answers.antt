use Rattle.aim_rules.proofs.WindowLaws.{cells-move, spans-move}
use Rattle.aim_rules.proofs.laws.trials_move_with_their_start.Goals as goal

pub returns-clause-cells : goal.returns-clause-cells
returns-clause-cells c = cells-move

pub returns-clause-spans : goal.returns-clause-spans
returns-clause-spans c = spans-move
