use Rattle.std.proofs.Common.{inl, inr, sym, ◌∙◌, true≢false}
use Rattle.serde_json.specs.View.{view}
use Rattle.aim_json.proofs.ReadingLaws.{reads_as, is_no_text}
use Rattle.aim_json.proofs.reading.json_line.Goals as goal

pub returns-in-Ok : goal.returns-in-Ok
returns-in-Ok c =
    let known = c.in-Ok.ensures.ok in
    let same = reads_as c.args.version c.args.line.now (view c.in-Ok.value) known.0 known.1 in
    elim c.line_of.ensures [ inl e ↦ inl e | inr e ↦ inr (e ∙ sym same) ]

pub returns-else-is_memory : goal.returns-else-is_memory
returns-else-is_memory c = inr (sym (is_no_text c.args.version c.args.line.now (c.in-Err.ensures.err (λ m. true≢false (sym (c.is_memory.ensures.1 m) ∙ c.if-is_memory.false)))))
