use Rattle.aim_grid.proofs.Returning.{tables_of}
use Rattle.aim_grid.proofs.closing.close.Goals as goal

pub close-journal-requires-clause-own : goal.close-journal-requires-clause-own
close-journal-requires-clause-own c = (tables_of c.args.manager c.args.seats c.in_ok-passes.passes.items c.requires.back c.in_ok-passes.ensures, c.requires.back.operator)
