-- Who may act, and up to which moment.
use Rattle.std.proofs.Common.{◌≡◌, ℕ, ◌<◌, ◌≤◌, arith}
use Rattle.aim_messages.specs.declared.messages.Body.TheVariants.{Cancel}
use Rattle.aim_messages.specs.declared.entries.Act.{Act}
use Rattle.aim_messages.specs.declared.entries.Act.TheVariants as act
use Rattle.aim_messages.specs.declared.entries.Order.TheVariants as order
use Rattle.aim_messages.specs.declared.entries.Entry.{Entry}
use Rattle.aim_messages.specs.declared.entries.TheConstants.{OPERATOR}
use Rattle.aim_messages.specs.declared.replies.Reply.TheVariants.{Ack}
use Rattle.aim_rules.specs.Legal.{MayAct, IsWellFormed}
use Rattle.aim_rules.proofs.Rows.{small}

abbrev nothing_held : Act
nothing_held = act.Message (record { seq = 1; body = Cancel 7 })

-- of eight vehicles the last is 7
pub the_last_vehicle : MayAct small 8 7 nothing_held
the_last_vehicle = (omega arith, omega arith)

pub a_vehicle_too_many : MayAct small 8 8 nothing_held → ⊥
a_vehicle_too_many h = let l : 8 < 8 = h.1 in omega arith

-- of three policies the last is 2
pub a_policy_too_many : MayAct small 8 OPERATOR (act.Order (order.Switch 3)) → ⊥
a_policy_too_many h = let l : 3 < 3 = h.1 in omega arith

-- a layout of more vehicles than there are numbers has no more callers
pub a_vehicle_with_the_operators_number : MayAct small 70000 OPERATOR nothing_held → ⊥
a_vehicle_with_the_operators_number h = let l : 65536 < 65536 = h.0 in omega arith

-- a vehicle gives no orders
pub a_switch_of_a_vehicle : MayAct small 8 0 (act.Order (order.Switch 1)) → ⊥
a_switch_of_a_vehicle h = let e : ◌≡◌ {A = ℕ} 0 65536 = h.0 in omega arith

pub a_stop_of_a_vehicle : MayAct small 8 0 (act.Order order.Stop) → ⊥
a_stop_of_a_vehicle h = let e : ◌≡◌ {A = ℕ} 0 65536 = h.0 in omega arith

abbrev at : ℕ → Entry
at moment = record { caller = 0; moment = moment; act = nothing_held; reply = Ack 7 }

pub the_greatest_moment : IsWellFormed small 8 (at 1073741824)
the_greatest_moment = record { moment = omega arith; caller = (omega arith, omega arith) }

pub a_moment_too_great : IsWellFormed small 8 (at 1073741825) → ⊥
a_moment_too_great h = let l : 1073741825 ≤ 1073741824 = h.moment in omega arith
