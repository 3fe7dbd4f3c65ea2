use Rattle.std.proofs.Common.{◌≡◌, ◌+◌, ◌<◌, ◌≤◌, ◌∷◌, [], ◌++◌, List, take, slice_set, length, rules}
use Rattle.std.proofs.lemmas.List.{take_more_set}
use Rattle.aim_driver.specs.declared.plans.PlannedChange.{PlannedChange}
use Rattle.aim_driver.specs.Plans.{last_change}
use Rattle.aim_driver.proofs.PlanLemmas.{planned_more}
use Rattle.aim_driver.proofs.plans.Changes.add.Goals as goal

pub invariant_of-self : goal.invariant_of-self
invariant_of-self c =
    let x : PlannedChange = record { step = c.args.step; lead = c.args.lead } in
    let cs : List PlannedChange = take c.self.inside.len c.self.inside.items in
    let within : c.self.inside.len < length c.self.inside.items = search rules in
    let grown : take (c.self.inside.len + 1) (slice_set c.self.inside.items c.self.inside.len x) ≡ cs ++ x ∷ [] = take_more_set c.self.inside.items c.self.inside.len x within in
    let few : c.self.inside.len + 1 ≤ 4 = search rules in
    let above : last_change cs ≤ c.args.step = rw (← c.self.view_is) at c.requires.rising in
    let more = planned_more cs _ x grown c.self.invariant.1 c.self.invariant.2 above c.requires.lead in
    (few, more.0, more.1)
