use Rattle.std.proofs.Common.{arith, ◌<◌, length}
use Rattle.std.proofs.lemmas.List.{length-take}
use Rattle.aim_io.proofs.LookLemmas.{ends_in, past_bytes}
use Rattle.aim_io.proofs.lines.look_at.Goals as goal
use Rattle.aim_io.proofs.lines.look_at.Goals.{then-held-room+else-held-lt-TOO_LONG, else-held-room}

pub returns-in-Some : goal.returns-in-Some
returns-in-Some c =
    let ends = c.in-Some.ensures.found in
    let within : c.in-Some.len < c.min.result = omega (arith, ends.fits, length-take c.min.result c.args.held.now) in record {
      few = omega arith;
      short = omega (arith, within);
      ends = ends_in _ _ _ ends;
      within = omega (arith, within);
    }

pub returns-in-None-3 : goal.returns-in-None-3
returns-in-None-3 c =
    let further : c.min-room.result < length c.args.held.now = elim c.if-held-room.branch [
      | then-held-room+else-held-lt-TOO_LONG w ↦ omega arith
      | else-held-room w ↦ omega arith
    ] in
    past_bytes c.args.given c.args.place c.min.result c.args.held.now (omega arith) (omega (arith, further)) (omega (arith, further)) (omega (arith, further)) c.in-None.ensures.none
