-- The value of the last line has no float.
use Rattle.std.proofs.Common.{◌≡◌, false, refl}
use Rattle.serde_json.specs.Written.{has_float}
use Rattle.aim_script.specs.declared.decisions.Decision.{Decision}
use Rattle.aim_script.specs.declared.decisions.Decision.TheVariants as decision
use Rattle.aim_replay_command.specs.Spelling.{decision_json}

pub decision_has_no_float : (d : Decision) → has_float (decision_json d) ≡ false
decision_has_no_float (decision.Bad number why) = refl
decision_has_no_float (decision.Limit which) = refl
decision_has_no_float (decision.Whole entries) = refl
