use Rattle.aim_replay_command.proofs.LineLemmas.{read_name}
use Rattle.aim_replay_command.proofs.words.WordLinesSpelling.read.Goals as goal

pub returns-in-Ok-clause-name : goal.returns-in-Ok-clause-name
returns-in-Ok-clause-name c = read_name c.args.bytes.now _ _ c.in-Ok.ensures
