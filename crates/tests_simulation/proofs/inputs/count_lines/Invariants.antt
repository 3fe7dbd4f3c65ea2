use Rattle.std.proofs.Common.{◌≡◌, ◌-◌, ◌≤◌, ℕ, List, None, false, length}
use Rattle.std.specs.declared.option.Option.{Option}
use Rattle.tests_simulation.specs.Counting.{count_from}
use Rattle.aim_io.specs.Known.{WhereKnown}
use Rattle.aim_io.specs.Lines.{outcomes_of}
use Rattle.aim_io.specs.Reader.{input, coming, IsSound, KnowsEnd}
use Rattle.aim_io.specs.Taken.{TookLines}
use Rattle.tests_simulation.proofs.inputs.count_lines.Given as goal

-- the lines taken so far, while the end of the input was not seen
pub record TookCount (before after : Option (List ℕ)) (count : ℕ) : Type 0 where
  pub lines : List (List ℕ)
  pub took : TookLines before after lines
  pub is : length lines ≡ count

abbrev pub invariant-lines : goal.invariant-lines
invariant-lines g l = record {
  count : l.count ≡ l.reader.given;
  no_fault : l.reader.fault ≡ None;
  sound : IsSound l.reader;
  knows : KnowsEnd l.reader (g.S.Source.left l.source);
  decides : WhereKnown (g.S.Source.left l.fn.source) (input l.reader (g.S.Source.left l.source)) (λ bytes rest. count_from l.count (coming l.reader rest) ≡ count_from 0 (outcomes_of bytes));
  took : l.reader.ended ≡ false → TookCount (g.S.Source.left l.fn.source) (input l.reader (g.S.Source.left l.source)) l.count;
  later : g.S.Source.faults l.fn.source ≤ g.S.Source.faults l.source;
}

abbrev pub decreases-lines : goal.decreases-lines
decreases-lines g l = 262144 - l.reader.given
