use Rattle.aim_manager.proofs.keeper.KeeperKept.apply.Goals as goal

pub returns-clause-entry : goal.returns-clause-entry
returns-clause-entry c = rw (← c.self.view_is) c.answer-book.ensures.entry
