use Rattle.std.proofs.Common.{◌≡◌, ◌-◌, ◌*◌, true, arith, length, refl, sym}
use Rattle.aim_layout.specs.Intersection.{stations}
use Rattle.aim_rules.specs.Footprint.{path_length}
use Rattle.aim_footprint.proofs.FastLemmas.{more_steps}
use Rattle.aim_footprint.proofs.fields.is_fast_too_long.Goals as goal

pub returns : goal.returns
returns c =
    let i = c.args.layout.now in
    let p = c.args.params.now in
    let m = c.requires.moving in
    let there : stations i p.lane p.turn ≡ c.args.found.now = rw c.requires.found refl in
    let parts : c.parts.result ≡ length c.args.found.now - 1 = omega arith in
    let spacing : c.grid-spacing.result.spacing ≡ i.grid.spacing = rw (c.grid-spacing.ensures.grid, c.ground.ensures.grid) refl in
    let long : c.parts.result * c.grid-spacing.result.spacing ≡ path_length i p = rw (parts, spacing, ← there) refl in
    rw (long, c.farthest_front.ensures) (sym (more_steps i p true 2048 m.speed m.most))
