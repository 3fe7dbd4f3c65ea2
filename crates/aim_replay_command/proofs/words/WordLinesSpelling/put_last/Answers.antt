use Rattle.aim_script.specs.Spellings.{by_words}
use Rattle.aim_replay_command.proofs.EndLemmas.{puts_same}
use Rattle.aim_replay_command.proofs.words.WordLinesSpelling.put_last.Goals as goal

pub returns : goal.returns
returns g c = puts_same _ _ _ _ _ _ _ _ c.last_line-len.ensures.text (c.put_whole.ensures by_words)
