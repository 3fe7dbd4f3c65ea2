-- When the crossing that a message asks for may begin: from the step `arrive` to the step `latest`.
use Rattle.std.specs.Prelude.{◌≡◌, ◌≤◌}
use Rattle.aim_messages.specs.declared.messages.Body.{Body}
use Rattle.aim_messages.specs.declared.messages.Body.TheVariants as body
use Rattle.aim_messages.specs.declared.entries.Act.{Act}
use Rattle.aim_messages.specs.declared.entries.Act.TheVariants as act

-- there is such a step
abbrev pub HasWindow : Body → Type 0
HasWindow (body.Request p) = p.arrive ≤ p.latest
HasWindow (body.Change id p) = p.arrive ≤ p.latest
HasWindow (body.Cancel id) = Unit {0}
HasWindow (body.Done id) = Unit {0}

-- there is one such step and no more
abbrev pub HasOneStep : Body → Type 0
HasOneStep (body.Request p) = p.latest ≡ p.arrive
HasOneStep (body.Change id p) = p.latest ≡ p.arrive
HasOneStep (body.Cancel id) = Unit {0}
HasOneStep (body.Done id) = Unit {0}

-- what is asked for by an act, if anything, has a step in which it may begin
abbrev pub ActHasWindow : Act → Type 0
ActHasWindow (act.Message m) = HasWindow m.body
ActHasWindow (act.Order o) = Unit {0}
