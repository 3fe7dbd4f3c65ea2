use Rattle.aim_text_session.proofs.HeadingLemmas.{settled}
use Rattle.aim_text_session.proofs.headings.setting_of.Goals as goal

pub returns-in-Ok-Whole : goal.returns-in-Ok-Whole
returns-in-Ok-Whole c lines st counted = settled lines c.args.vehicles c.in-Ok-Whole.setting counted (rw c.in-Ok-Whole.field-0-is at (c.in-Ok-Whole.ensures lines st))
