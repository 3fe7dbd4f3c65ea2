use Rattle.aim_text_session.proofs.NumberLaws.{faults_apart, limits_apart, faults_and_limits}
use Rattle.aim_text_session.proofs.laws.numbers_tell_faults_apart.Goals as goal

pub returns-clause-fault : goal.returns-clause-fault
returns-clause-fault c = faults_apart

pub returns-clause-limit : goal.returns-clause-limit
returns-clause-limit c = limits_apart

pub returns-clause-apart : goal.returns-clause-apart
returns-clause-apart c = faults_and_limits
