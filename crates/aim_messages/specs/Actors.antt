-- Who may act: the operator gives orders, and vehicles send messages.
use Rattle.std.specs.Prelude.{◌≡◌, ◌<◌, ℕ}
use Rattle.aim_messages.specs.declared.entries.Act.{Act}
use Rattle.aim_messages.specs.declared.entries.Act.TheVariants as act
use Rattle.aim_messages.specs.declared.entries.Entry.{Entry}
use Rattle.aim_messages.specs.declared.entries.TheConstants.{OPERATOR}

abbrev pub IsOrder : Act → Type 0
IsOrder (act.Message m) = ⊥
IsOrder (act.Order o) = Unit {0}

-- which caller may be an act's: `OPERATOR` where it is an order, and a vehicle's number, which is below, where it is a message
abbrev pub IsCallerOf : ℕ → Act → Type 0
IsCallerOf caller (act.Message m) = caller < OPERATOR
IsCallerOf caller (act.Order o) = caller ≡ OPERATOR

-- whether an entry's caller may be its act's
abbrev pub IsCalled : Entry → Type 0
IsCalled e = IsCallerOf e.caller e.act
