use Rattle.aim_rules.specs.Trials.{judged}
use Rattle.aim_book.proofs.EarlyLemmas.{far_is}
use Rattle.aim_book.proofs.refusals.is_far.Goals as goal

pub returns-in-Some : goal.returns-in-Some
returns-in-Some c = λ p before after asking good.
    far_is c.args.layout.now p (judged c.args.layout.now p).fast c.in-Some.sheet.now.spans c.args.reach c.reaches.result before after (c.in-Some.ensures.trial p asking good).cells c.reaches.ensures

pub returns-in-None : goal.returns-in-None
returns-in-None c = λ p before after asking good. absurd (c.in-None.ensures.none p asking good)
