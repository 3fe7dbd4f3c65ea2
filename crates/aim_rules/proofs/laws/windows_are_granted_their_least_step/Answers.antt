use Rattle.aim_rules.proofs.WindowLaws.{least_step, within_window}
use Rattle.aim_rules.proofs.laws.windows_are_granted_their_least_step.Goals as goal

pub returns-clause-window : goal.returns-clause-window
returns-clause-window c = within_window

pub returns-clause-least : goal.returns-clause-least
returns-clause-least c = least_step
