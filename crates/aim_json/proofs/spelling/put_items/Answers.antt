use Rattle.std.proofs.Common.{◌+◌, ◌∙◌, List, ℕ, ap, drop}
use Rattle.serde_json.specs.declared.value.Value.{Value}
use Rattle.serde_json.specs.View.{items_view, view}
use Rattle.aim_messages.specs.Writing.{added}
use Rattle.aim_json.specs.Spelling.{items_words, plain_words}
use Rattle.aim_json.proofs.SpellingLaws.{next_item}
use Rattle.aim_json.proofs.spelling.put_items.Goals as goal

pub loop-item-preserved : goal.loop-item-preserved
loop-item-preserved c =
    let items = c.args.items.now in
    let left = items_words (items_view (drop (c.loop-item.item-index + 1) items)) in
    ap (λ (t : List ℕ). added t left) (c.in_ok-put_plain.ensures ∙ ap (λ (v : Value). added c.loop-item.out.items (plain_words (view v))) c.item-item.is)
    ∙ next_item c.loop-item.out.items items c.loop-item.item-index c.item-item.result c.loop-item-test.true
    ∙ c.loop-item.invariant
