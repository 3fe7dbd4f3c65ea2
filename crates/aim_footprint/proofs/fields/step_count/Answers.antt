use Rattle.std.proofs.Common.{arith, ◌≡◌, ◌-◌, ◌*◌, sym, length, refl}
use Rattle.aim_layout.specs.Intersection.{stations}
use Rattle.aim_rules.specs.Footprint.{path_length}
use Rattle.aim_footprint.proofs.FieldLemmas.{steps_steady}
use Rattle.aim_footprint.proofs.fields.step_count.Goals as goal

pub returns-clause-steps : goal.returns-clause-steps
returns-clause-steps c =
    let m = c.requires.moving in
    let there : stations c.args.layout.now c.args.params.now.lane c.args.params.now.turn ≡ c.args.found.now = rw c.requires.found refl in
    let parts : c.parts.result ≡ length c.args.found.now - 1 = omega arith in
    let spacing : c.grid-spacing.result.spacing ≡ c.args.layout.now.grid.spacing = rw (c.grid-spacing.ensures.grid, c.ground.ensures.grid) refl in
    let long : c.parts.result * c.grid-spacing.result.spacing ≡ path_length c.args.layout.now c.args.params.now = rw (parts, spacing, ← there) refl in
    rw long (sym (steps_steady c.args.layout.now c.args.params.now m.speed m.most))
