-- The journal of calls.
use Rattle.std.specs.Prelude.{ℕ, ◌≤◌, List, [], ◌∷◌, ◌++◌, fold}
use Rattle.std.specs.List.{AllByRecursion}
use Rattle.aim_messages.specs.declared.entries.Act.{Act}
use Rattle.aim_messages.specs.declared.entries.Entry.{Entry}
use Rattle.aim_messages.specs.declared.entries.TheConstants.{LATEST_MOMENT}
use Rattle.aim_layout.specs.Intersection.{Intersection}
use Rattle.aim_rules.specs.Answer.{answer}
use Rattle.aim_rules.specs.Legal.{MayAct}

-- a call of the manager
pub record Call : Type 0 where
  pub caller : ℕ
  pub moment : ℕ
  pub act : Act

-- the call that made the entry
abbrev pub call_of : Entry → Call
call_of e = record { caller = e.caller; moment = e.moment; act = e.act }

-- the entry that the call makes after a history
abbrev pub entry_of : Intersection → List Entry → Call → Entry
entry_of i h c =
    record { caller = c.caller; moment = c.moment; act = c.act; reply = answer i h c.caller c.moment c.act }

-- the one legal history of the calls
abbrev pub journal : Intersection → List Call → List Entry
journal i calls = fold (λ h c. h ++ entry_of i h c ∷ []) [] calls

-- whether each call may be made
abbrev pub MayCall : Intersection → ℕ → List Call → Type 0
MayCall i vehicles calls = AllByRecursion (λ c. (c.moment ≤ LATEST_MOMENT) × MayAct i vehicles c.caller c.act) calls
