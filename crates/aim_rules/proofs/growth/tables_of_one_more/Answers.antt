use Rattle.aim_rules.proofs.TableLaws.{AreTables-empty, AreTables-snoc, AreTables-pruned, IsKnown-tables}
use Rattle.aim_rules.proofs.growth.tables_of_one_more.Goals as goal

pub returns-clause-none : goal.returns-clause-none
returns-clause-none c = AreTables-empty

pub returns-clause-more : goal.returns-clause-more
returns-clause-more c = AreTables-snoc

pub returns-clause-pruned : goal.returns-clause-pruned
returns-clause-pruned c = AreTables-pruned

pub returns-clause-known : goal.returns-clause-known
returns-clause-known c = IsKnown-tables
