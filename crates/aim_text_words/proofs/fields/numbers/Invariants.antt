use Rattle.std.proofs.Common.{◌≡◌, ◌-◌, length, take, []}
use Rattle.aim_text_words.specs.Steps.{numbers_in}
use Rattle.aim_text_words.proofs.fields.numbers.Given as goal

abbrev pub invariant-loop-i : goal.invariant-loop-i
invariant-loop-i g l = record {
  same : numbers_in (take l.i l.numbers) (g.row.N - l.i) l.words ≡ numbers_in [] g.row.N l.fn.words;
  size : length l.numbers ≡ g.row.N;
}
