use Rattle.aim_rules.proofs.LegalLemmas.{legal_journal}
use Rattle.aim_rules.proofs.laws.legal_history_is_the_journal_of_its_calls.Goals as goal

pub returns : goal.returns
returns c = legal_journal
