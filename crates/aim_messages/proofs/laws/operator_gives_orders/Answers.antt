use Rattle.aim_messages.proofs.ActorLaws.{operator_orders}
use Rattle.aim_messages.proofs.laws.operator_gives_orders.Goals as goal

pub returns : goal.returns
returns c = operator_orders
