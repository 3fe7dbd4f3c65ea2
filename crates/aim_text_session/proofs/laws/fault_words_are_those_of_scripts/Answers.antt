use Rattle.aim_text_session.proofs.NumberLaws.{fault_words, limit_words}
use Rattle.aim_text_session.proofs.laws.fault_words_are_those_of_scripts.Goals as goal

pub returns-clause-fault : goal.returns-clause-fault
returns-clause-fault c = fault_words

pub returns-clause-limit : goal.returns-clause-limit
returns-clause-limit c = limit_words
