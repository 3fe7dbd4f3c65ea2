use Rattle.std.proofs.lemmas.List.Elements.{All-set}
use Rattle.aim_requests.specs.Requests.{IsPreparedFor}
use Rattle.aim_requests.proofs.shapes.Shapes.keep.Goals as goal

pub returns : goal.returns
returns c = All-set (IsPreparedFor c.args.layout.now) c.self.inside.slots.items c.slot_for-at.result c.copy.new.self (rw c.copy.ensures c.requires.prepared) (rw c.self.view_is c.requires.known)
