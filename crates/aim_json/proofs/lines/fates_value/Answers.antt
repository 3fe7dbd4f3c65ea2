use Rattle.std.proofs.Common.{◌<◌, ◌≤◌, List, [], ◌∷◌, ◌++◌, length, map, take, get_or, sym, ap, ◌∙◌, subst}
use Rattle.std.proofs.lemmas.List.{map-append, take_all, take_more}
use Rattle.serde_json.specs.Data.{Data, array}
use Rattle.serde_json.specs.View.{items_of}
use Rattle.serde_json.proofs.Views.{view-Array}
use Rattle.aim_json.specs.Lines.{fate_json}
use Rattle.aim_json.proofs.lines.fates_value.Goals as goal

pub loop-fate-preserved : goal.loop-fate-preserved
loop-fate-preserved c =
    let fates = c.args.fates.now in
    let i = c.loop-fate.fate-index in
    let front = take fates.len fates.fates in
    let lt : i < length front = subst (λ n. i < length (take n fates.fates)) c.from.ensures c.loop-fate-test.true in
    c.in_ok-push_fate.ensures
    ∙ (λ j. c.loop-fate.invariant j ++ fate_json (get_or (take (c.from.ensures j) fates.fates) i 0) ∷ [])
    ∙ sym (map-append fate_json (take i front) (get_or front i 0 ∷ []))
    ∙ ap (map fate_json) (sym (take_more front i 0 lt))

pub returns : goal.returns
returns c =
    let fates = c.args.fates.now in
    let i = c.loop-fate.fate-index in
    let end : length (take fates.len fates.fates) ≤ i = subst (λ n. length (take n fates.fates) ≤ i) c.from.ensures c.loop-fate-test.false in
    view-Array c.loop-fate.list
    ∙ ap (λ (made : List Data). array (items_of made)) (c.loop-fate.invariant ∙ ap (map fate_json) (take_all i (take fates.len fates.fates) end))
