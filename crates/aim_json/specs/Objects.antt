-- The members of an object that is made.
use Rattle.std.specs.Prelude.{◌≡◌, IfOk}
use Rattle.serde_json.specs.Data.{Members}
use Rattle.serde_json.specs.View.{members_view}
use Rattle.aim_json.specs.declared.object.Object.{Object}

-- these are the members so far, unless memory ran out
abbrev pub Holds : Object → Members → Type 0
Holds o members = IfOk o.members (λ m. members_view m.entries ≡ members)
