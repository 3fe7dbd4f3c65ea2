use Rattle.std.proofs.Common.{subst}
use Rattle.aim_messages.specs.declared.entries.Act.TheVariants as act
use Rattle.aim_rules.specs.Answer.{answer}
use Rattle.aim_sessions.proofs.LookLaws.{Says, look_says, refusal_of}
use Rattle.aim_sessions.proofs.laws.answers_by_the_look.Goals as goal

pub returns-clause-stale : goal.returns-clause-stale
returns-clause-stale c i rows h v moment last m are l e = subst (λ k. Says k (answer i h v moment (act.Message m)) (refusal_of i h v moment m)) e (look_says i rows h v moment m are l)

pub returns-clause-repeat : goal.returns-clause-repeat
returns-clause-repeat c i rows h v moment m reply are l e = subst (λ k. Says k (answer i h v moment (act.Message m)) (refusal_of i h v moment m)) e (look_says i rows h v moment m are l)

pub returns-clause-reused : goal.returns-clause-reused
returns-clause-reused c i rows h v moment m are l e = subst (λ k. Says k (answer i h v moment (act.Message m)) (refusal_of i h v moment m)) e (look_says i rows h v moment m are l)
