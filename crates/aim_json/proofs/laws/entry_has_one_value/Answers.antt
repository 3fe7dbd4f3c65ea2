use Rattle.aim_json.proofs.EntryValues.{entry_has_one_value}
use Rattle.aim_json.proofs.laws.entry_has_one_value.Goals as goal

pub returns : goal.returns
returns c = entry_has_one_value
