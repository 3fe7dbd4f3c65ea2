use Rattle.std.proofs.Common.{◌∙◌, ap}
use Rattle.aim.proofs.SettleLemmas.{concluded, handed_on}
use Rattle.aim.proofs.program.run.Goals as goal

pub returns-clause-answers : goal.returns-clause-answers
returns-clause-answers g c =
    concluded _ _ _ _ _ _ c.settle.ensures.bytes c.settle.ensures.sink (λ four is. ap g.K.Sink.kept_back (c.settle.ensures.read four) ∙ is) c.settle.ensures.settles c.command_of.ensures.value c.obey-status.ensures

pub returns-clause-settled : goal.returns-clause-settled
returns-clause-settled g c = handed_on _ _ _ _ c.settle.ensures.settles
