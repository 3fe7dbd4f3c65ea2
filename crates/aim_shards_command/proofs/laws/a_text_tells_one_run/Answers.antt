use Rattle.std.proofs.Common.{sym, ◌∙◌}
use Rattle.aim_shards_command.proofs.Telling.{history_told}
use Rattle.aim_shards_command.proofs.laws.a_text_tells_one_run.Goals as goal

pub returns : goal.returns
returns c lines others text a b = history_told a.log b.log a.told b.told (sym a.is ∙ b.is)
