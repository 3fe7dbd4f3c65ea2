use Rattle.std.proofs.Common.{◌≡◌, ◌+◌, ◌-◌, true, length, arith, sym, ◌∙◌}
use Rattle.std.specs.List.{slice_index_or}
use Rattle.aim_geometry.proofs.BoundedLemmas.{least_below_at, least_below_none}
use Rattle.aim_layout.specs.Shapes.{are_wide, origin, stations_of, parts_of}
use Rattle.aim_layout.proofs.ShapeLemmas.{length-stations_of}
use Rattle.aim_layout.proofs.shapes.Shape.wide_step.Goals as goal

pub returns-then-are_wide : goal.returns-then-are_wide
returns-then-are_wide c =
    let ss = stations_of c.args.self.now in
    let count : length ss ≡ parts_of c.args.self.now + 1 = length-stations_of c.args.self.now in
    let wide : are_wide c.args.spacing (slice_index_or ss c.loop-j.j origin) (slice_index_or ss (c.loop-j.j + 1) origin) ≡ true =
    rw (← c.station.ensures, ← c.station-in-loop-j.ensures) (sym c.are_wide.ensures ∙ c.if-are_wide.true) in
    sym (least_below_at (length ss - 1) (λ j. are_wide c.args.spacing (slice_index_or ss j origin) (slice_index_or ss (j + 1) origin)) c.loop-j.j (omega arith) c.loop-j.invariant wide)

pub returns : goal.returns
returns c =
    let ss = stations_of c.args.self.now in
    let count : length ss ≡ parts_of c.args.self.now + 1 = length-stations_of c.args.self.now in
    sym (least_below_none (length ss - 1) (λ j. are_wide c.args.spacing (slice_index_or ss j origin) (slice_index_or ss (j + 1) origin)) (λ k l. c.loop-j.invariant k (omega arith)))
