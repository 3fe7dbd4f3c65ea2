use Rattle.std.proofs.Common.{◌∙◌}
use Rattle.aim_json.specs.Entries.{entry_json_text}
use Rattle.aim_replay_command.proofs.json_lines.JsonLinesSpelling.put_entry.Goals as goal

pub put_whole-requires : goal.put_whole-requires
put_whole-requires g c = (entry_json_text c.args.position c.args.entry.now, c.deref.ensures.value ∙ c.in-Ok.ensures)
