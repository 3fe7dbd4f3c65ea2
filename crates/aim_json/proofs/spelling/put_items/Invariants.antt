use Rattle.std.proofs.Common.{◌≡◌, drop}
use Rattle.serde_json.specs.View.{items_view}
use Rattle.aim_messages.specs.Writing.{added}
use Rattle.aim_json.specs.Spelling.{items_words}
use Rattle.aim_json.proofs.spelling.put_items.Given as goal

abbrev pub invariant-loop-item : goal.invariant-loop-item
invariant-loop-item l =
    added l.out.items (items_words (items_view (drop l.item-index l.items))) ≡ added l.fn.out.items (items_words (items_view l.items))
