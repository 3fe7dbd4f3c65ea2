use Rattle.std.proofs.Common.{ap, arith}
use Rattle.aim_io.specs.Reader.{Reader}
use Rattle.aim_io.proofs.WindowLemmas.{window, length_window, window_none, in_window}
use Rattle.aim_io.proofs.lines.LineReader.look.Goals as goal

pub returns-clause-says : goal.returns-clause-says
returns-clause-says c = rw (← c.self.view_is) (rw (window c.self.inside.bytes c.self.inside.start c.self.inside.end c.self.invariant.0) c.look_at.ensures)

pub returns-clause-sound : goal.returns-clause-sound
returns-clause-sound c =
    let size = length_window c.self.inside.bytes c.self.inside.start c.self.inside.end (omega (arith, c.self.invariant, c.self.told)) in
    rw (← c.self.view_is) (record {
      few = omega (arith, c.self.invariant);
      read = omega (arith, c.self.invariant, size);
      ended = λ ended. window_none c.self.inside.bytes c.self.inside.start c.self.inside.end (c.self.invariant.6 ended);
    })

pub look_at-requires-clause-is_open : goal.look_at-requires-clause-is_open
look_at-requires-clause-is_open c =
    let is_open = rw (← c.self.view_is) at c.requires.is_open in
    rw (window c.self.inside.bytes c.self.inside.start c.self.inside.end c.self.invariant.0) at is_open

pub look_at-requires-clause-in_range : goal.look_at-requires-clause-in_range
look_at-requires-clause-in_range c =
    in_window c.self.inside.bytes c.args.self.now.held c.self.inside.start c.self.inside.end c.args.seen (ap (λ (r : Reader). r.held) c.self.view_is)
    c.self.invariant.0 c.requires.in_range
