use Rattle.std.proofs.Common.{false, true}
use Rattle.aim_book.proofs.FreeLemmas.{fast_is, fast_none, fast_steps, tried_alone}
use Rattle.aim_book.proofs.StartLemmas.{judged_fast, judged_slow, slow_steps}
use Rattle.aim_book.proofs.starts.confirm_judged.Goals as goal

pub returns-in-Some : goal.returns-in-Some
returns-in-Some c = λ k at.
    judged_fast c.args.layout.now k c.args.params.now c.confirm.result c.requires.windows (fast_is c.args.layout.now c.args.params.now c.args.prepared.now c.in-Some.field-0.now c.requires.asking c.requires.good c.in-Some.ensures).0 (c.confirm.ensures k at)

pub returns-in-None : goal.returns-in-None
returns-in-None c = λ k at.
    judged_slow c.args.layout.now k c.args.params.now c.confirm-in-None.result c.requires.windows (fast_none c.args.layout.now c.args.params.now c.args.prepared.now c.requires.asking c.requires.good c.in-None.ensures) (c.confirm-in-None.ensures k at)

pub confirm-requires-clause-tried : goal.confirm-requires-clause-tried
confirm-requires-clause-tried c = tried_alone c.args.layout.now c.args.params.now true (fast_is c.args.layout.now c.args.params.now c.args.prepared.now c.in-Some.field-0.now c.requires.asking c.requires.good c.in-Some.ensures).0

pub confirm-requires-in-None-clause-tried : goal.confirm-requires-in-None-clause-tried
confirm-requires-in-None-clause-tried c = tried_alone c.args.layout.now c.args.params.now false (fast_none c.args.layout.now c.args.params.now c.args.prepared.now c.requires.asking c.requires.good c.in-None.ensures)

pub confirm-requires-clause-steps : goal.confirm-requires-clause-steps
confirm-requires-clause-steps c = fast_steps c.args.layout.now c.args.params.now c.args.prepared.now c.steps-steps.result c.requires.asking c.requires.good (fast_is c.args.layout.now c.args.params.now c.args.prepared.now c.in-Some.field-0.now c.requires.asking c.requires.good c.in-Some.ensures).0 c.steps-steps.ensures

pub confirm-requires-in-None-clause-steps : goal.confirm-requires-in-None-clause-steps
confirm-requires-in-None-clause-steps c = slow_steps c.args.layout.now c.args.params.now c.args.prepared.now c.steps-steps.result c.requires.windows (fast_none c.args.layout.now c.args.params.now c.args.prepared.now c.requires.asking c.requires.good c.in-None.ensures) c.requires.asking c.requires.good c.steps-steps.ensures
