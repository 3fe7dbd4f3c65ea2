use Rattle.aim_rules.proofs.LegalLemmas.{IsLegal-journal}
use Rattle.aim_rules.proofs.laws.journal_is_legal.Goals as goal

pub returns : goal.returns
returns c = IsLegal-journal
