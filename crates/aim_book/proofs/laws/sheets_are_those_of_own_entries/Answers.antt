use Rattle.aim_book.proofs.OwnLemmas.{sheets_other, sheets_own}
use Rattle.aim_book.proofs.laws.sheets_are_those_of_own_entries.Goals as goal

pub returns-clause-other : goal.returns-clause-other
returns-clause-other c v h e other = sheets_other v h e other

pub returns-clause-own : goal.returns-clause-own
returns-clause-own c v h = sheets_own v h
