use Rattle.std.proofs.Common.{arith, inl, refl, sym}
use Rattle.std.proofs.KnownBytes.{Keeps-refl}
use Rattle.aim_io.proofs.ReadingLemmas.{can_answer, advanced, on_ok, lazy_on, read_told, has_fault}
use Rattle.aim_io.proofs.lines.LineReader.advance.Goals as goal

pub returns-in-Some : goal.returns-in-Some
returns-in-Some g c = record {
  step = λ _ none. absurd (has_fault c.args.self.now.fault c.in-Some.fault c.in-Some.ensures.fault none);
  knows = λ knows. knows;
  line = tt;
  taken = tt;
  after = tt;
  end = tt;
  going = tt;
  last = tt;
  no_fault = tt;
  sound = c.stopped.ensures.sound;
  fault = λ none. absurd (has_fault c.args.self.now.fault c.in-Some.fault c.in-Some.ensures.fault none);
  keeps = Keeps-refl _;
  shows = λ none. absurd (has_fault c.args.self.now.fault c.in-Some.fault c.in-Some.ensures.fault none);
  read = λ _ none. absurd (has_fault c.args.self.now.fault c.in-Some.fault c.in-Some.ensures.fault none);
  asked = λ _ none. absurd (has_fault c.args.self.now.fault c.in-Some.fault c.in-Some.ensures.fault none);
  again = rw (← c.in-Some.ensures.fault) (refl, refl, refl);
  later = omega arith;
  lazy = λ _. refl;
  needed = inl refl;
  ended = λ _. refl;
}

pub answer-requires : goal.answer-requires
answer-requires g c = can_answer c.read_on-look.new.self _ _ _ c.read_on-look.result c.read_on-look.ensures.shows

pub returns : goal.returns
returns g c =
    let old = c.args.self.now in
    let new = c.answer.new.self in
    let on = c.read_on-look.ensures.on in
    let none = sym c.in_default.ensures.fault in
    let a =
    advanced g.S.Source.left g.S.Source.faults g.S.Source.last_read old c.read_on-look.new.self new c.args.source.now c.read_on-look.new.source c.read_on-look.result c.answer.result
    on c.read_on-look.ensures.sound c.read_on-look.ensures.shows c.answer.ensures in
    record {
      step = λ knows _. a.step knows;
      knows = a.knows;
      line = a.line;
      taken = a.taken;
      after = a.behind;
      end = a.end;
      going = a.going;
      last = a.last;
      no_fault = on_ok c.answer.result _ none;
      sound = a.sound;
      fault = a.fault;
      keeps = a.keeps;
      shows = a.shows;
      read = λ is _. read_told c.answer.result _ a.read is;
      asked = λ is _. read_told c.answer.result _ a.asked is;
      again = rw none tt;
      later = on.later;
      lazy = lazy_on c.args.source.now c.read_on-look.new.source old.held c.read_on-look.new.self.held on.ahead;
      needed = on.needed;
      ended = on.quiet;
    }
