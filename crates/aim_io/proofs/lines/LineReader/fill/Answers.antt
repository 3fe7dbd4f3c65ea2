use Rattle.std.proofs.Common.{◌≡◌, ◌+◌, ◌-◌, ◌≤◌, ◌++◌, List, ℕ, true, false, arith, length, take, drop, refl, sym, ap, ◌∙◌}
use Rattle.std.proofs.KnownBytes.{Keeps-refl}
use Rattle.std.proofs.lemmas.List.{take_at, take_all}
use Rattle.aim_io.specs.Reader.{Reader}
use Rattle.aim_io.proofs.FillLemmas.{grown, grown_length, keeps_same, some_came, none_came, same_length, told_more, if_ok_err, on_err, held_size, not_both}
use Rattle.aim_io.proofs.InputLemmas.{keeps_more}
use Rattle.aim_io.proofs.lines.LineReader.fill.Goals as goal

pub make_room-self-inside-requires : goal.make_room-self-inside-requires
make_room-self-inside-requires g c =
    let inside = c.self.inside in
    let held = held_size inside.bytes c.args.self.now.held inside.start inside.end c.self.invariant.1 c.self.told (ap (λ (r : Reader). r.held) c.self.view_is) in
    record {
      size = c.self.told;
      ordered = c.self.invariant.0;
      in_range = c.self.invariant.1;
      short = omega (arith, held, c.requires.is_open.short, c.self.invariant.0);
    }

pub overflow_sub-most-2 : goal.overflow_sub-most-2
overflow_sub-most-2 g c =
    let inside = c.self.inside in
    let held = held_size inside.bytes c.args.self.now.held inside.start inside.end c.self.invariant.1 c.self.told (ap (λ (r : Reader). r.held) c.self.view_is) in
    let place : inside.place ≡ c.args.self.now.place = ap (λ (r : Reader). r.place) c.self.view_is in
    omega (arith, held, place, c.requires.within)

pub read_at-requires : goal.read_at-requires
read_at-requires g c =
    let inside = c.self.inside in
    let held = held_size inside.bytes c.args.self.now.held inside.start inside.end c.self.invariant.1 c.self.told (ap (λ (r : Reader). r.held) c.self.view_is) in
    let place : inside.place ≡ c.args.self.now.place = ap (λ (r : Reader). r.place) c.self.view_is in
    record {
      in_range = omega (arith, c.make_room-self-inside.ensures.room, c.make_room-self-inside.auto.bytes, c.self.told);
      some = omega (arith, held, place, c.requires.within);
    }

pub invariant_of-self : goal.invariant_of-self
invariant_of-self g c = (
  omega arith,
  omega (arith, c.make_room-self-inside.ensures.room),
  c.self.invariant.2,
  c.self.invariant.3,
  c.self.invariant.4,
  omega (arith, c.self.invariant.0, c.self.invariant.5),
  λ over. not_both c.self.inside.ended c.if-self.false over,
)

pub invariant_of-self-2 : goal.invariant_of-self-2
invariant_of-self-2 g c =
    let fits = c.in_ok-count.ensures.fits in (
      omega arith,
      omega (arith, fits.0, c.read_at.auto.bytes, c.make_room-self-inside.auto.bytes, c.self.told),
      c.self.invariant.2,
      c.self.invariant.3,
      c.self.invariant.4,
      omega (arith, fits.1, c.self.invariant.0, c.self.invariant.5),
      λ over. not_both c.self.inside.ended c.if-self.false over,
    )

pub returns-then-self : goal.returns-then-self
returns-then-self g c =
    let over : c.args.self.now.ended ≡ true = sym (ap (λ (r : Reader). r.ended) c.self.view_is) ∙ c.if-self.true in
    record {
      same = refl;
      keeps = Keeps-refl _;
      front = take_all (length c.args.self.now.held) c.args.self.now.held (omega arith);
      more = tt;
      none = refl;
      end = λ knows. knows over;
      err = tt;
      ended = λ _. refl;
      last = λ going. not_both c.args.self.now.ended going over;
      cause = record { later = omega arith; failed = tt };
    }

pub returns-in_err-count : goal.returns-in_err-count
returns-in_err-count g c =
    let now = c.args.self.now in
    let start = c.make_room-self-inside.result in
    let stop = start + (c.self.inside.end - c.self.inside.start) in
    let going : now.ended ≡ false = sym (ap (λ (r : Reader). r.ended) c.self.view_is) ∙ c.if-self.false in
    let held : drop start (take stop c.read_at.new.bytes) ≡ now.held =
    ap (drop start) c.read_at.ensures.front ∙ c.make_room-self-inside.ensures.held ∙ ap (λ (r : Reader). r.held) c.self.view_is in
    let e = c.in_err-count.ensures in
    record {
      same = rw (← c.self.view_is) refl;
      keeps = keeps_same (g.S.Source.left c.args.source.now) (g.S.Source.left c.read_at.new.source) now.held _ e.err held;
      front = ap (take (length now.held)) held ∙ take_all (length now.held) now.held (omega arith);
      more = if_ok_err c.from_residual.result _ c.from_residual.ensures.0;
      none = if_ok_err c.from_residual.result _ c.from_residual.ensures.0;
      end = λ _. if_ok_err c.from_residual.result _ c.from_residual.ensures.0;
      err = on_err c.from_residual.result _ (held, going);
      ended = λ over. not_both now.ended going over;
      last = λ _. told_more (g.S.Source.last_read c.read_at.new.source) (length now.held) _ 0 (ap (λ (l : List ℕ). length l) held ∙ omega arith) e.last;
      cause = record { later = e.cause.later; failed = on_err c.from_residual.result _ e.cause.failed };
    }

pub returns : goal.returns
returns g c =
    let now = c.args.self.now in
    let start = c.make_room-self-inside.result in
    let stop = start + (c.self.inside.end - c.self.inside.start) in
    let new = c.read_at.new.bytes in
    let n = c.in_ok-count.count in
    let e = c.in_ok-count.ensures in
    let going : now.ended ≡ false = sym (ap (λ (r : Reader). r.ended) c.self.view_is) ∙ c.if-self.false in
    let fits : stop + n ≤ length new = e.fits.0 in
    let held : drop start (take (stop + n) new) ≡ now.held ++ take n (drop stop new) =
    grown c.make_room-self-inside.new.bytes new now.held start stop n (omega arith) fits e.front (c.make_room-self-inside.ensures.held ∙ ap (λ (r : Reader). r.held) c.self.view_is) in
    let size : length (drop start (take (stop + n) new)) ≡ length now.held + n = grown_length new now.held (drop start (take (stop + n) new)) stop n fits held in
    record {
      same = rw (← c.self.view_is) refl;
      keeps = keeps_more (g.S.Source.left c.args.source.now) (g.S.Source.left c.read_at.new.source) now.held (take n (drop stop new)) _ e.piece held;
      front = ap (take (length now.held)) held ∙ take_at now.held (take n (drop stop new)) (length now.held) refl;
      more = some_came n (length now.held) _ size;
      none = none_came n _ (same_length now.held _ (take n (drop stop new)) n held size);
      end = λ _. none_came n _ e.end;
      err = tt;
      ended = λ over. not_both now.ended going over;
      last = λ _. told_more (g.S.Source.last_read c.read_at.new.source) (length now.held) _ n size e.last;
      cause = record { later = e.cause.later; failed = tt };
    }
