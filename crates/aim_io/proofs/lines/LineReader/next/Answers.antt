use Rattle.std.proofs.Common.{◌≡◌, ◌≢◌, ℕ, List, Bool, Some, None, Ok, Err, Result, IfSome, refl, sym, ap, subst, Bor}
use Rattle.std.specs.declared.option.Option.{Option}
use Rattle.aim_io.specs.declared.lines.LineFault.{LineFault}
use Rattle.aim_io.specs.declared.lines.LineFault.TheVariants.{Read}
use Rattle.aim_io.specs.Reader.{Gave}
use Rattle.aim_io.proofs.lines.LineReader.next.Goals as goal

same_fault : (old : Option LineFault) (fault : LineFault) (P Q : Type 0) → IfSome old (λ first. (◌≡◌ {A = Result Bool LineFault} (Err fault) (Err first)) × P × Q)
    → IfSome old (λ first. (fault ≡ first) × P)
same_fault None fault P Q again = tt
same_fault (Some first) fault P Q again = let is : ◌≡◌ {A = Result Bool LineFault} (Err fault) (Err first) = again.0 in (cc, again.1)

source_same : (old : Option LineFault) (fault : LineFault) (P Q : Type 0) → IfSome old (λ first. (◌≡◌ {A = Result Bool LineFault} (Err fault) (Err first)) × P × Q)
    → IfSome old (λ _. Q)
source_same None fault P Q again = tt
source_same (Some first) fault P Q again = again.2

no_more : (old : Option LineFault) (P : LineFault → Type 0) → old ≡ None → IfSome old P
no_more None P none = tt
no_more (Some first) P none = let no : ⊥ = cc in absurd no

line_not_fault : (line : Option (Bor (List ℕ))) → ◌≢◌ {A = Result (Option (Bor (List ℕ))) LineFault} (Ok line) (Err Read)
line_not_fault line is = cc

pub returns-in-Ok-true : goal.returns-in-Ok-true
returns-in-Ok-true g c =
    let old = c.args.self.now in
    let new = c.advance.new.self in
    let before = g.S.Source.left c.args.source.now in
    let after = g.S.Source.left c.advance.new.source in
    let e = c.in-Ok-true.ensures in
    let gave : Gave old new before after c.in-Ok-true.field-0 = record {
      no_fault = e.no_fault;
      is_open = e.line;
      taken = e.taken;
      after = e.after;
      end = e.end;
      going = e.going;
      last = e.last;
      sound = e.sound;
      knows = e.knows;
      step = λ knows. e.step knows e.no_fault;
    } in (
      (refl, λ _. tt, (sym c.line.ensures, subst (λ b. Gave old new before after b) c.in-Ok-true.field-0-test gave)),
      record {
        rests = tt;
        read = λ is none. absurd (line_not_fault _ is);
        again = no_more _ _ e.no_fault;
        later = e.later;
        lazy = e.lazy;
        needed = e.needed;
        ended = e.ended;
      },
    )

pub returns-in-Ok-false : goal.returns-in-Ok-false
returns-in-Ok-false g c =
    let old = c.args.self.now in
    let new = c.advance.new.self in
    let before = g.S.Source.left c.args.source.now in
    let after = g.S.Source.left c.advance.new.source in
    let e = c.in-Ok-false.ensures in
    let gave : Gave old new before after c.in-Ok-false.field-0 = record {
      no_fault = e.no_fault;
      is_open = e.line;
      taken = e.taken;
      after = e.after;
      end = e.end;
      going = e.going;
      last = e.last;
      sound = e.sound;
      knows = e.knows;
      step = λ knows. e.step knows e.no_fault;
    } in (
      (refl, λ _. tt, subst (λ b. Gave old new before after b) c.in-Ok-false.field-0-test gave),
      record {
        rests = tt;
        read = λ is none. absurd (line_not_fault _ is);
        again = no_more _ _ e.no_fault;
        later = e.later;
        lazy = e.lazy;
        needed = e.needed;
        ended = e.ended;
      },
    )

pub returns-in-Err : goal.returns-in-Err
returns-in-Err g c =
    let e = c.in-Err.ensures in (
      (
        refl,
        λ _. tt,
        (
          λ none. record {
            after = e.fault none;
            keeps = e.keeps;
            shows = e.shows none;
            read = λ read. let stopped = e.read (ap (λ (f : LineFault). Err f) read) none in (stopped.0, stopped.1);
            step = λ knows. e.step knows none;
          },
          same_fault _ _ _ _ e.again,
        ),
      ),
      record {
        rests = tt;
        read = λ is none. let read : c.in-Err.fault ≡ Read = cc in (e.read (ap (λ (f : LineFault). Err f) read) none).2;
        again = source_same _ _ _ _ e.again;
        later = e.later;
        lazy = e.lazy;
        needed = e.needed;
        ended = e.ended;
      },
    )
