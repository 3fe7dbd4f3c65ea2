use Rattle.aim_manager.proofs.Served.{served}
use Rattle.aim_manager.proofs.manager.Manager.operate.Goals as goal

pub returns-clause-served : goal.returns-clause-served
returns-clause-served g c = let k = c.in-Operated.ensures.call in rw (← c.self.view_is) (served _ _ _ _ _ _ _ _ k k.did)
