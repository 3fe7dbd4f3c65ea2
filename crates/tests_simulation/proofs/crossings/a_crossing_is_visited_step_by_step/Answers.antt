use Rattle.std.proofs.Common.{◌≡◌, true, false, sym, ◌∙◌}
use Rattle.aim_footprint.proofs.GoodLemmas.{windowless}
use Rattle.tests_simulation.proofs.crossings.a_crossing_is_visited_step_by_step.Goals as goal

pub simulate-requires-clause-tried : goal.simulate-requires-clause-tried
simulate-requires-clause-tried g c = λ windows. absurd (let apart : true ≡ false = sym windows ∙ windowless _ c.version.ensures.valid in cc)
