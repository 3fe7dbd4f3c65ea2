use Rattle.std.proofs.lemmas.List.{take_rest}
use Rattle.aim_io.proofs.LookLemmas.{ends_past}
use Rattle.aim_io.proofs.lines.line_end_past.Goals as goal

pub returns-in-Some-clause-found : goal.returns-in-Some-clause-found
returns-in-Some-clause-found c =
    let ends = rw take_rest at c.in-Some.ensures.found in
    ends_past c.args.bytes.now c.args.seen c.in-Some.at c.requires.in_range c.requires.no_end ends
