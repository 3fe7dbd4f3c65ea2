use Rattle.aim_text_entries.proofs.EntryAgain.{entry_again}
use Rattle.aim_text_entries.proofs.laws.entry_is_read_again.Goals as goal

pub returns : goal.returns
returns c = entry_again
