use Rattle.std.proofs.Common.{ap, arith}
use Rattle.aim_io.specs.Reader.{Reader}
use Rattle.aim_io.proofs.WindowLemmas.{window, length_window, window_empty, some_held, none_held}
use Rattle.aim_io.proofs.lines.LineReader.take_rest.Goals as goal

pub returns-clause-new : goal.returns-clause-new
returns-clause-new c =
    let size = length_window c.self.inside.bytes c.self.inside.start c.self.inside.end (omega (arith, c.self.invariant, c.self.told)) in
    let line = window c.self.inside.bytes c.self.inside.start c.self.inside.end c.self.invariant.0 in
    let none = window_empty c.self.inside.bytes c.self.inside.end in
    rw (← c.self.view_is) (cc (line, size, none))

pub returns-clause-line : goal.returns-clause-line
returns-clause-line c =
    some_held c.self.inside.bytes c.args.self.now.held c.self.inside.start c.self.inside.end c.self.told c.self.invariant.1
    (ap (λ (r : Reader). r.held) c.self.view_is) c.if-len-eq0.false

pub returns-then-len-eq0-clause-line : goal.returns-then-len-eq0-clause-line
returns-then-len-eq0-clause-line c =
    none_held c.self.inside.bytes c.args.self.now.held c.self.inside.start c.self.inside.end c.self.told c.self.invariant.1
    (ap (λ (r : Reader). r.held) c.self.view_is) c.if-len-eq0.true
