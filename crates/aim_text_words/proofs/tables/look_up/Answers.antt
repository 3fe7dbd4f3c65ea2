use Rattle.std.proofs.Common.{sym, ◌∙◌}
use Rattle.aim_text_words.proofs.TableLaws.{row_has, row_passed}
use Rattle.aim_text_words.proofs.tables.look_up.Goals as goal

pub returns-then-eq : goal.returns-then-eq
returns-then-eq g c = sym (row_has _ _ _ _ _ c.loop-row-test.true c.row-item.is (sym c.eq.ensures ∙ c.if-eq.true)) ∙ c.loop-row.invariant

pub loop-row-preserved : goal.loop-row-preserved
loop-row-preserved g c = sym (row_passed _ _ _ _ _ c.loop-row-test.true c.row-item.is (sym c.eq.ensures ∙ c.if-eq.false)) ∙ c.loop-row.invariant
