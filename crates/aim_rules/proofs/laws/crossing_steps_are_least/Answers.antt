use Rattle.std.proofs.Common.{◌+◌}
use Rattle.aim_rules.specs.Motion.{front}
use Rattle.aim_rules.specs.Footprint.{crossing_steps, path_length}
use Rattle.aim_rules.proofs.TestLemmas.{is_less, not_less}
use Rattle.aim_rules.proofs.MotionLemmas.{crossing_steps-least}
use Rattle.aim_rules.proofs.laws.crossing_steps_are_least.Goals as goal

pub returns-clause-past : goal.returns-clause-past
returns-clause-past c i p fast h l = is_less (path_length i p + p.length) (front p fast (crossing_steps i p fast)) (crossing_steps-least i p fast h l).passes

pub returns-clause-before : goal.returns-clause-before
returns-clause-before c i p fast k h l b = not_less (path_length i p + p.length) (front p fast k) ((crossing_steps-least i p fast h l).first k b)
