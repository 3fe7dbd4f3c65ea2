use Rattle.std.proofs.Common.{arith, ◌≡◌, ◌≢◌, ◌+◌, ℕ, ◌++◌, ◌∷◌, [], true, Some, Err, refl, sym, ap, ◌∙◌}
use Rattle.std.proofs.lemmas.List.{length-append}
use Rattle.aim_io.specs.declared.lines.LineFault.{LineFault}
use Rattle.aim_io.specs.declared.lines.LineFault.TheVariants.{Read}
use Rattle.tests_simulation.specs.Counting.{count_from}
use Rattle.aim_io.specs.Lines.{outcomes_of}
use Rattle.aim_io.specs.Reader.{Reader, after_call}
use Rattle.aim_io.proofs.LoopLemmas.{decides_line, decided_end, decided_fault, took_line, took_kept, took_part}
use Rattle.tests_simulation.proofs.inputs.count_lines.Goals as goal

pub lines-preserved : goal.lines-preserved
lines-preserved g c =
    let i = c.lines.invariant in
    let new = c.advance.new.self in
    let after : new ≡ after_call c.lines.reader new true = rw c.in-Ok-true.field-0-test at c.in-Ok-true.ensures.after in
    let given : new.given ≡ c.lines.reader.given + 1 = ap (λ (r : Reader). r.given) after in
    let answers = rw c.in-Ok-true.field-0-test at (c.in-Ok-true.ensures.step i.knows i.no_fault) in
    let line = rw c.in-Ok-true.field-0-test at c.in-Ok-true.ensures.line in
    let taken = rw c.in-Ok-true.field-0-test at c.in-Ok-true.ensures.taken in record {
      count = omega (arith, i.count, given);
      no_fault = ap (λ (r : Reader). r.fault) after ∙ i.no_fault;
      sound = c.advance.ensures.sound;
      knows = c.advance.ensures.knows i.knows;
      decides = decides_line (count_from c.lines.count) (count_from (c.lines.count + 1)) (λ bytes. count_from 0 (outcomes_of bytes)) c.lines.reader new _ _ _
          (λ _. refl) i.decides answers;
      took = λ still.
          let before = i.took (rw c.in-Ok-true.field-0-test at c.in-Ok-true.ensures.going) in
          let whole = rw still at taken in record {
            lines = before.lines ++ new.line ∷ [];
            took = took_line _ _ _ before.lines new.line before.took line.no_end whole;
            is = length-append before.lines (new.line ∷ []) ∙ ap (λ (n : ℕ). n + 1) before.is;
          };
      later = omega (arith, i.later, c.advance.ensures.later);
    }

pub returns-in-Ok-false-clause-whole : goal.returns-in-Ok-false-clause-whole
returns-in-Ok-false-clause-whole g c _ =
    let i = c.lines.invariant in
    let answers = rw c.in-Ok-false.field-0-test at (c.in-Ok-false.ensures.step i.knows i.no_fault) in
    decided_end (count_from c.lines.count) (λ bytes. count_from 0 (outcomes_of bytes)) c.lines.reader c.advance.new.self _ _ _ i.decides answers

pub returns-in-Err-clause-whole : goal.returns-in-Err-clause-whole
returns-in-Err-clause-whole g c other =
    let i = c.lines.invariant in
    let not_read : c.in-Err.fault ≢ Read = λ read. other (ap (λ (f : LineFault). Some f) read) in
    decided_fault (count_from c.lines.count) (λ bytes. count_from 0 (outcomes_of bytes)) (λ fault. (c.lines.count, Some fault)) c.lines.reader c.advance.new.self
    _ _ _ c.in-Err.fault not_read (λ _. refl) i.decides (c.in-Err.ensures.step i.knows i.no_fault)

pub returns-in-Err-clause-short : goal.returns-in-Err-clause-short
returns-in-Err-clause-short g c is =
    let i = c.lines.invariant in
    let new = c.advance.new.self in
    let fault : c.in-Err.fault ≡ Read = cc in
    let read = c.in-Err.ensures.read (ap (λ (f : LineFault). Err f) fault) i.no_fault in
    let after = c.in-Err.ensures.fault i.no_fault in
    let before = i.took (sym (ap (λ (r : Reader). r.ended) after) ∙ read.1) in record {
      lines = before.lines;
      took = took_part _ _ new.held before.lines (took_kept _ _ _ _ before.took c.in-Err.ensures.keeps) read.0.is_open.no_end;
      is = before.is;
    }
