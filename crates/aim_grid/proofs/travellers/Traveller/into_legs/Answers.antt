use Rattle.std.proofs.Common.{ap, ◌∙◌}
use Rattle.aim_grid.specs.Legs.{legs_told}
use Rattle.aim_grid.proofs.Legs.{told_left}
use Rattle.aim_grid.proofs.travellers.Traveller.into_legs.Goals as goal

pub returns : goal.returns
returns c =
    c.in_ok-append_unbegun.ensures
    ∙ told_left c.self.inside.over.items c.push.new.self.items c.self.inside.crossing c.into_parts-driver.result.0 c.self.inside.agent.driver c.into_parts-driver.result.1 c.self.inside.agent.pass
    c.self.inside.waiting.items c.in_ok-push.ensures.items c.into_parts-driver.ensures.driver c.into_parts-driver.ensures.pass
    ∙ ap legs_told c.self.view_is
