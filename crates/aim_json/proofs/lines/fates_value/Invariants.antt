use Rattle.std.proofs.Common.{◌≡◌, map, take}
use Rattle.serde_json.specs.View.{view}
use Rattle.aim_json.specs.Lines.{fate_json}
use Rattle.aim_json.proofs.lines.fates_value.Given as goal

abbrev pub invariant-loop-fate : goal.invariant-loop-fate
invariant-loop-fate l = map view l.list.items ≡ map fate_json (take l.fate-index (take l.fates.len l.fates.fates))
