use Rattle.std.proofs.Common.{refl, sym, ap, ◌∙◌}
use Rattle.aim_geometry.specs.declared.ground.Grid.{Grid}
use Rattle.aim_line_session.proofs.SessionLemmas.{opened}
use Rattle.aim_line_session.proofs.progress.Progress.open.Goals as goal

pub returns-in-Some : goal.returns-in-Some
returns-in-Some g c before set =
    let spans = ap (λ (x : Grid). x.spans) (c.grid-spans.ensures.grid ∙ c.ground.ensures.grid) in
    sym (rw spans at c.in-Some.ensures)

pub returns-in-Ok : goal.returns-in-Ok
returns-in-Ok g c before set = opened before c.args.setting _ refl refl refl c.in-Ok.ensures.layout c.in-Ok.ensures.vehicles c.in-Ok.ensures.serves c.in-Ok.ensures.orders set
