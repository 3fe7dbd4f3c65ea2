use Rattle.tests_simulation.proofs.tables.a_table_joins_ledger_after_ledger.Given as goal

abbrev pub ghosts-claimed_apart : goal.ghosts-claimed_apart
ghosts-claimed_apart g a = record { name = a.blank.name; parts = a.blank.parts }
