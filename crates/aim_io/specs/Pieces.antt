-- How much the last read of a source gave.
use Rattle.std.specs.Prelude.{◌≡◌, ℕ, Result, Ok, Err, IfSome}
use Rattle.std.specs.declared.option.Option.{Option}

-- how many bytes a read gave
abbrev pub given_by : {E : Type 0} → Result ℕ E → ℕ
given_by (Ok n) = n
given_by (Err e) = 0

-- the read that answered this was the last one, where the source tells how much that gave
abbrev pub TellsLast : {E : Type 0} → Option ℕ → Result ℕ E → Type 0
TellsLast last result = IfSome last (λ n. n ≡ given_by result)
