use Rattle.std.proofs.Common.{arith}
use Rattle.aim_io.proofs.ReadingLemmas.{read_none, read_more, sound_same, shows_same, seen_now, look_shown, failed_next}
use Rattle.aim_io.proofs.lines.LineReader.read_on.Goals as goal

pub pieces-init : goal.pieces-init
pieces-init g c = record {
  on = read_none g.S.Source.left g.S.Source.faults g.S.Source.last_read c.args.self.now c.args.source.now;
  within = omega (arith, c.requires.within);
  in_range = omega arith;
  is_open = record { no_end = tt; short = omega arith };
}

pub pieces-preserved : goal.pieces-preserved
pieces-preserved g c =
    let f = c.fill.ensures in
    let says = c.in-Open.ensures.says in
    let seen = seen_now c.pieces.self c.fill.new.self c.held_len-seen.result c.held_len-seen.ensures says f.same f.front in
    record {
      on =
          read_more g.S.Source.left g.S.Source.faults g.S.Source.last_read c.args.self.now c.pieces.self c.fill.new.self c.args.source.now c.pieces.source c.fill.new.source
          c.pieces.invariant.on says f.same f.keeps f.front f.ended f.last f.cause.later;
      within = seen.0;
      in_range = seen.1;
      is_open = seen.2;
    }

pub returns-in_default : goal.returns-in_default
returns-in_default g c = record {
  on = c.pieces.invariant.on;
  sound = c.look.ensures.sound;
  shows = look_shown c.pieces.self _ _ _ c.look.result c.in_default.not-Open c.look.ensures.says;
}

pub returns-in-Err : goal.returns-in-Err
returns-in-Err g c =
    let f = c.fill.ensures in
    let says = c.in-Open.ensures.says in
    let failed = c.in-Err.ensures.err in
    record {
      on =
          read_more g.S.Source.left g.S.Source.faults g.S.Source.last_read c.args.self.now c.pieces.self c.fill.new.self c.args.source.now c.pieces.source c.fill.new.source
          c.pieces.invariant.on says f.same f.keeps f.front f.ended f.last f.cause.later;
      sound = sound_same c.pieces.self c.fill.new.self c.look.ensures.sound f.same failed.0;
      shows = failed_next c.pieces.self c.fill.new.self _ _ _ says f.same failed.0 failed.1 c.pieces.invariant.on.later c.in-Err.ensures.cause.failed;
    }

pub returns-in-Ok-false : goal.returns-in-Ok-false
returns-in-Ok-false g c =
    let f = c.fill.ensures in
    let says = c.in-Open.ensures.says in
    let none = rw c.in-Ok-false.field-0-test at c.in-Ok-false.ensures.none in
    record {
      on =
          read_more g.S.Source.left g.S.Source.faults g.S.Source.last_read c.args.self.now c.pieces.self c.fill.new.self c.args.source.now c.pieces.source c.fill.new.source
          c.pieces.invariant.on says f.same f.keeps f.front f.ended f.last f.cause.later;
      sound = sound_same c.pieces.self c.fill.new.self c.look.ensures.sound f.same none;
      shows = (
        shows_same c.pieces.self c.fill.new.self says f.same none,
        λ knows. rw c.in-Ok-false.field-0-test at (c.in-Ok-false.ensures.end (c.pieces.invariant.on.knows knows)),
      );
    }
