use Rattle.aim_text_entries.proofs.TableLaws.{field_read}
use Rattle.aim_text_entries.proofs.replies.field.Goals as goal

pub returns : goal.returns
returns c = field_read _ _ _ c.choice.ensures
