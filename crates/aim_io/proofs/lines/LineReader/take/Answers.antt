use Rattle.std.proofs.Common.{◌≡◌, ◌+◌, arith, take}
use Rattle.std.proofs.lemmas.List.{drop-drop}
use Rattle.aim_io.proofs.WindowLemmas.{take_window, length_window}
use Rattle.aim_io.proofs.lines.LineReader.take.Goals as goal

pub returns-clause-new : goal.returns-clause-new
returns-clause-new c =
    let size = length_window c.self.inside.bytes c.self.inside.start c.self.inside.end (omega (arith, c.self.invariant, c.self.told)) in
    let held = rw (← c.self.view_is) at c.requires.held in
    let line = take_window c.self.inside.bytes c.self.inside.start c.self.inside.end c.args.len (omega (arith, held, size)) in
    let rest = drop-drop (c.args.len + 1) c.self.inside.start (take c.self.inside.end c.self.inside.bytes) in
    let place : c.self.inside.place + (c.args.len + 1) ≡ c.self.inside.place + c.args.len + 1 = omega arith in
    rw (← c.self.view_is) (cc (line, rest, place))
