use Rattle.aim_script_reading.proofs.Undecided.{decided_by_line, no_decision_from, undecided_from, whole_lines_are}
use Rattle.aim_script_reading.proofs.laws.undecided_bytes_hold_no_decision.Goals as goal

pub returns-clause-lines : goal.returns-clause-lines
returns-clause-lines g c r bytes = ((λ u. no_decision_from r bytes u), (λ h. undecided_from r bytes h))

pub returns-clause-whole : goal.returns-clause-whole
returns-clause-whole g c r bytes h = whole_lines_are r bytes h

pub returns-clause-decided : goal.returns-clause-decided
returns-clause-decided g c r bytes none = decided_by_line r bytes none
