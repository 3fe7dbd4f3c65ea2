use Rattle.std.proofs.Common.{◌≡◌, drop}
use Rattle.serde_json.specs.View.{view}
use Rattle.aim_messages.specs.Writing.{added}
use Rattle.aim_json.specs.Spelling.{members_words, names_of}
use Rattle.aim_json.proofs.spelling.put_members.Given as goal

abbrev pub invariant-loop-name : goal.invariant-loop-name
invariant-loop-name l =
    added l.out.items (members_words (names_of (drop l.name-index l.names)) (view l.value)) ≡ added l.fn.out.items (members_words (names_of l.names) (view l.value))
