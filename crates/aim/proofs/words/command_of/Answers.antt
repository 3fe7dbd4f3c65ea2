use Rattle.std.specs.String.{string_bytes}
use Rattle.aim.proofs.WordLemmas.{too_many}
use Rattle.aim.proofs.words.command_of.Goals as goal

pub returns-in_default-2-clause-value : goal.returns-in_default-2-clause-value
returns-in_default-2-clause-value c = too_many string_bytes c.args.words.now c.in_default.len_at_least
