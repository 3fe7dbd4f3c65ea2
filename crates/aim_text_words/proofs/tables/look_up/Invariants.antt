use Rattle.std.proofs.Common.{◌≡◌, drop}
use Rattle.aim_text_words.specs.Tables.{look_up, rows_of}
use Rattle.aim_text_words.proofs.tables.look_up.Given as goal

abbrev pub invariant-loop-row : goal.invariant-loop-row
invariant-loop-row g l = look_up l.fault (rows_of (drop l.row-index l.rows)) l.word ≡ look_up l.fault (rows_of l.rows) l.word
