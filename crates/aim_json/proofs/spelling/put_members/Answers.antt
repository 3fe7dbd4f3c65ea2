use Rattle.std.proofs.Common.{◌+◌, ◌∙◌, List, ℕ, ap, drop}
use Rattle.serde_json.specs.View.{view}
use Rattle.aim_messages.specs.Writing.{added}
use Rattle.aim_json.specs.Spelling.{members_words, names_of}
use Rattle.aim_json.proofs.SpellingLaws.{next_name}
use Rattle.aim_json.proofs.spelling.put_members.Goals as goal

pub loop-name-preserved : goal.loop-name-preserved
loop-name-preserved c =
    let d = view c.args.value.now in
    let left = members_words (names_of (drop (c.loop-name.name-index + 1) c.args.names.now)) d in
    ap (λ (t : List ℕ). added t left) c.in_ok-put_member.ensures
    ∙ next_name c.loop-name.out.items c.args.names.now c.loop-name.name-index _ d c.loop-name-test.true
    ∙ c.loop-name.invariant
