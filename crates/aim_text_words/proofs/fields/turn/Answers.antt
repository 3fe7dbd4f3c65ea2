use Rattle.aim_text_words.proofs.TableLaws.{turn_read}
use Rattle.aim_text_words.proofs.fields.turn.Goals as goal

pub returns : goal.returns
returns c = turn_read _ _ _ c.choice.ensures
