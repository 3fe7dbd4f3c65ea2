use Rattle.std.proofs.Common.{sym, ◌∙◌}
use Rattle.aim_book.proofs.FreeLemmas.{one_tried, two_answer, two_gone, window_tried}
use Rattle.aim_book.proofs.desks.Desk.answer_free.Goals as goal

pub answer_window-requires-clause-windows : goal.answer_window-requires-clause-windows
answer_window-requires-clause-windows g c = sym c.has_windows.ensures.windows ∙ c.if-has_windows.true

pub answer_two-requires-clause-one : goal.answer_two-requires-clause-one
answer_two-requires-clause-one g c = sym c.has_windows.ensures.windows ∙ c.if-has_windows.false

pub returns-then-has_windows-clause-cost : goal.returns-then-has_windows-clause-cost
returns-then-has_windows-clause-cost g c = window_tried c.args.layout.now c.args.params.now _ _ _ c.has_windows.ensures.valid c.requires.good (sym c.has_windows.ensures.windows ∙ c.if-has_windows.true) c.answer_window.ensures.cost

pub returns-else-has_windows-clause-reply : goal.returns-else-has_windows-clause-reply
returns-else-has_windows-clause-reply g c = λ k tells passed. two_answer c.args.layout.now k c.args.params.now c.answer_two.result tells.valid (sym c.has_windows.ensures.windows ∙ c.if-has_windows.false) (c.answer_two.ensures.reply k tells) passed

pub returns-else-has_windows-clause-prepared : goal.returns-else-has_windows-clause-prepared
returns-else-has_windows-clause-prepared g c = c.requires.asking.prepared

pub returns-else-has_windows-clause-gone : goal.returns-else-has_windows-clause-gone
returns-else-has_windows-clause-gone g c = λ k tells t named. two_gone c.args.layout.now k c.args.params.now c.answer_two.result t c.args.prepared.now (c.answer_two.ensures.reply k tells) named c.requires.asking c.requires.good

pub returns-else-has_windows-clause-cost : goal.returns-else-has_windows-clause-cost
returns-else-has_windows-clause-cost g c = one_tried c.args.layout.now c.args.params.now _ _ _ _ (sym c.has_windows.ensures.windows ∙ c.if-has_windows.false) c.answer_two.ensures.cost
