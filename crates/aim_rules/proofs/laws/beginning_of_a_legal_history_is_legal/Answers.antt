use Rattle.aim_rules.proofs.LegalLemmas.{IsLegal-before}
use Rattle.aim_rules.proofs.laws.beginning_of_a_legal_history_is_legal.Goals as goal

pub returns : goal.returns
returns c = IsLegal-before
