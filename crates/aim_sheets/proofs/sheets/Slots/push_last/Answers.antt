use Rattle.std.proofs.Common.{◌≡◌, ◌≢◌, false, length, sym, ap, ◌∙◌, arith}
use Rattle.std.specs.Prelude.{insert}
use Rattle.std.proofs.lemmas.List.Edits.{insert_end}
use Rattle.aim_sheets.specs.Sheets.{Spans}
use Rattle.aim_sheets.specs.Spans.{has_place, AreRising}
use Rattle.aim_sheets.proofs.Edits.{inserted}
use Rattle.aim_sheets.proofs.Order.{has_place-none}
use Rattle.aim_sheets.proofs.sheets.Slots.push_last.Goals as goal

pub invariant_of-self : goal.invariant_of-self
invariant_of-self c =
    let now = c.args.self.now in
    let span = c.args.span in
    let rising : AreRising now.spans = rw (← c.self.view_is) c.self.invariant.0.rising in
    let free : has_place now.spans span.step span.row ≡ false = has_place-none now.spans rising span.step span.row (length now.spans) span (λ k d _ lt. c.requires.last k d lt, λ k d le lt. absurd (omega arith)) (λ lt. absurd (omega arith)) in
    let same : length c.self.inside.held.items ≡ length now.spans = ap (λ (s : Spans). length s.spans) c.self.view_is in
    let rooms : c.self.inside.room ≡ now.room = ap (λ (s : Spans). s.room) c.self.view_is in
    let some : length now.spans ≢ now.room = omega (arith, c.len.ensures, c.if-len-self.false) in
    let items = c.push_reserved.ensures.items ∙ sym (insert_end c.self.inside.held.items span) ∙ ap (λ n. insert c.self.inside.held.items n span) same in (
      inserted (record { spans = c.self.inside.held.items; room = c.self.inside.room }) now c.push_reserved.new.self.items (length now.spans) span c.self.view_is items c.self.invariant.0 c.requires.some free
          some (omega arith) (λ k d _ lt. c.requires.last k d lt, λ k d le lt. absurd (omega arith)),
      omega (arith, c.self.invariant.1, c.push_reserved.ensures.capacity),
    )
