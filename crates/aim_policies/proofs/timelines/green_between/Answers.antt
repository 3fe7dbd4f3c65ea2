use Rattle.aim_policies.proofs.Windows.{dark_window}
use Rattle.aim_policies.proofs.timelines.green_between.Goals as goal

pub returns-in-None : goal.returns-in-None
returns-in-None c = λ lane. dark_window _ c.in-None.ensures lane _
