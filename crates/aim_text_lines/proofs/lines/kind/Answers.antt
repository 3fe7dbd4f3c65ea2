use Rattle.aim_text_lines.proofs.TableLaws.{kind_read_3}
use Rattle.aim_text_lines.proofs.lines.kind.Goals as goal

pub returns-then-version-ge3 : goal.returns-then-version-ge3
returns-then-version-ge3 c = kind_read_3 _ c.if-version-ge3.true _ _ _ c.choice.ensures
