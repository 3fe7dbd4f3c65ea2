use Rattle.std.proofs.Common.{Some}
use Rattle.aim_grid.proofs.Orders.{in_order}
use Rattle.aim_grid.proofs.laws.legs_are_in_order.Goals as goal

pub returns : goal.returns
returns c = λ until journal rides late legs. in_order until journal (Some 0) rides late legs
