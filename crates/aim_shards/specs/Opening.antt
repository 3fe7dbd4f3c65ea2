-- What opening answers.
use Rattle.std.specs.Prelude.{ℕ, ◌&&◌, nat_le, if◌then◌else◌, Option, None, Some}
use Rattle.aim_shards.specs.declared.opening.ShardFault.{ShardFault}
use Rattle.aim_shards.specs.declared.opening.ShardFault.TheVariants.{Callers, Calls, Sets}

-- the first of the causes, other than want of memory
abbrev pub fault_of : ℕ → ℕ → ℕ → Option ShardFault
fault_of callers calls sets =
    if nat_le 1 callers && nat_le callers 64 then (if nat_le 1 calls && nat_le calls 1024 then (if nat_le sets 1024 then None else Some Sets) else Some Calls) else Some Callers
