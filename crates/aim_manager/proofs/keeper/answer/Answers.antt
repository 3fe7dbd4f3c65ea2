use Rattle.aim_manager.proofs.keeper.answer.Goals as goal

pub returns-clause-entry : goal.returns-clause-entry
returns-clause-entry g c = rw (c.leave.ensures, ← c.join-book.ensures) c.make_call-told.ensures.entry

pub returns-clause-does : goal.returns-clause-does
returns-clause-does g c = rw (c.leave.ensures, ← c.join-book.ensures) c.make_call-told.ensures.does

pub returns-clause-lawful : goal.returns-clause-lawful
returns-clause-lawful g c = rw c.leave.ensures c.make_call-told.ensures.lawful
