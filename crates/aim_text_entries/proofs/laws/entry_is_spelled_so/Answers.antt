use Rattle.aim_text_entries.proofs.EntrySpelled.{entry_was_spelled}
use Rattle.aim_text_entries.proofs.laws.entry_is_spelled_so.Goals as goal

pub returns : goal.returns
returns c = entry_was_spelled
