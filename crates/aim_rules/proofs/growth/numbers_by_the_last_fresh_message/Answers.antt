use Rattle.aim_rules.proofs.HistoryLaws.{is_fresh_seq-last, greatest-last, find-last, seq_said}
use Rattle.aim_rules.proofs.growth.numbers_by_the_last_fresh_message.Goals as goal

pub returns-clause-known : goal.returns-clause-known
returns-clause-known c i h v moment seq = seq_said h v seq

pub returns-clause-fresh : goal.returns-clause-fresh
returns-clause-fresh c = is_fresh_seq-last

pub returns-clause-most : goal.returns-clause-most
returns-clause-most c = greatest-last

pub returns-clause-found : goal.returns-clause-found
returns-clause-found c = find-last
