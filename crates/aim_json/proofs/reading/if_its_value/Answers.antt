use Rattle.std.proofs.Common.{◌≡◌, ◌∙◌, ◌++◌, List, ℕ, sym, ap, inr, true≢false}
use Rattle.std.proofs.lemmas.Slice.Eq.{bytes_eq-Decides}
use Rattle.serde_json.specs.View.{view}
use Rattle.aim_json.specs.Lines.{json_text}
use Rattle.aim_json.proofs.ReadingLaws.{its_value, not_its_value, one_text, text_of_value}
use Rattle.aim_json.proofs.reading.if_its_value.Goals as goal

pub returns-then-eq : goal.returns-then-eq
returns-then-eq c =
    let d = view c.args.value.now in
    let l = c.args.line in
    let text = json_text c.args.version l in
    let written : c.as_slice.result.now ≡ text = c.as_slice.ensures.value ∙ c.in-Ok.ensures.ok ∙ ap (λ (t : List ℕ). t ++ text) c.new-wanted.ensures.items in
    let texts = (bytes_eq-Decides c.as_slice.result.now c.as_slice-2.result.now).0 (sym c.eq.ensures ∙ c.if-eq.true) in
    let found : c.in-Ok-to_vec.found.items ≡ text = sym c.as_slice-2.ensures.value ∙ sym texts ∙ written in
    inr (sym (its_value c.args.version l d (one_text c.args.version l d c.in-Ok-to_vec.found.items found c.in-Ok.ensures.reads (c.in-Ok-to_vec.ensures.reads_back c.requires.nests))))

pub returns : goal.returns
returns c =
    let d = view c.args.value.now in
    let l = c.args.line in
    let text = json_text c.args.version l in
    let written : c.as_slice.result.now ≡ text = c.as_slice.ensures.value ∙ c.in-Ok.ensures.ok ∙ ap (λ (t : List ℕ). t ++ text) c.new-wanted.ensures.items in
    inr (sym (not_its_value c.args.version l d (λ e.
    let found = c.as_slice-2.ensures.value ∙ text_of_value c.args.version l d c.in-Ok-to_vec.found.items e c.in-Ok-to_vec.ensures.text in
    let equal = (bytes_eq-Decides c.as_slice.result.now c.as_slice-2.result.now).1 (written ∙ sym found) in
    true≢false (sym equal ∙ sym c.eq.ensures ∙ c.if-eq.false))))
