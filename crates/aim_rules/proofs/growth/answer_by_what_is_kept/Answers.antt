use Rattle.aim_rules.proofs.AnswerLaws.{answer-kept}
use Rattle.aim_rules.proofs.growth.answer_by_what_is_kept.Goals as goal

pub returns : goal.returns
returns c = answer-kept
