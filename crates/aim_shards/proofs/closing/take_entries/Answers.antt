use Rattle.aim_shards.proofs.Endings.{not_empty, entries_at}
use Rattle.aim_shards.proofs.closing.take_entries.Goals as goal

pub unreachable-requires : goal.unreachable-requires
unreachable-requires c = not_empty c.requires.lies.1 c.take.ensures.value c.in_default.is

pub returns-clause-entries : goal.returns-clause-entries
returns-clause-entries c l at = entries_at at c.in-Some.ensures.value c.entries_of.ensures
