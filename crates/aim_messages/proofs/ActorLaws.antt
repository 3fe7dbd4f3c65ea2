-- Who may act.
use Rattle.std.proofs.Common.{◌≡◌, ◌↔◌, ℕ, arith}
use Rattle.aim_messages.specs.declared.entries.Act.{Act}
use Rattle.aim_messages.specs.declared.entries.Act.TheVariants as act
use Rattle.aim_messages.specs.declared.entries.TheConstants.{OPERATOR}
use Rattle.aim_messages.specs.Actors.{IsOrder, IsCallerOf}

pub operator_orders : (caller : ℕ) (a : Act) → IsCallerOf caller a → (caller ≡ OPERATOR ↔ IsOrder a)
operator_orders caller (act.Message m) below = (λ is. omega arith, λ order. absurd order)
operator_orders caller (act.Order o) is = (λ _. tt, λ _. is)
