use Rattle.aim_manager.proofs.Served.{served}
use Rattle.aim_manager.proofs.Sheets.{sheets_of_pass}
use Rattle.aim_manager.proofs.manager.Manager.serve.Goals as goal

pub returns-clause-served : goal.returns-clause-served
returns-clause-served g c = let k = c.in-Served.ensures.call in rw (← c.self.view_is) (served _ _ _ _ _ _ _ _ k k.did.0)

pub returns-clause-sheets : goal.returns-clause-sheets
returns-clause-sheets g c = let k = c.in-Served.ensures.call in
    sheets_of_pass _ _ _ _ _ _ _ _ c.sheets_are_those_of_own_entries.ensures.own c.in-Served.ensures.same.number k.own k.mine (rw (c.replace.ensures.value) at k.did.1.count)
