use Rattle.aim_text_entries.proofs.KindLaws.{entry_known}
use Rattle.aim_text_entries.proofs.laws.entry_is_never_unknown.Goals as goal

pub returns : goal.returns
returns c = entry_known
