-- A block that an `aim` line doesn't end.
use Rattle.std.proofs.Common.{◌≡◌, ℕ, ◌+◌, false, nat_le, List, length, Err}
use Rattle.aim_messages.specs.declared.script.Line.TheVariants as plain
use Rattle.aim_script.specs.declared.headers.HeaderRefusal.{HeaderRefusal}
use Rattle.aim_script.specs.declared.headers.HeaderRefusal.TheVariants as header_refusal
use Rattle.aim_grid_script.specs.declared.lines.GridLine.{GridLine}
use Rattle.aim_grid_script.specs.declared.lines.GridLine.TheVariants as line
use Rattle.aim_grid_script.specs.declared.stages.Blocks.{Blocks}
use Rattle.aim_grid_script.specs.Said.{parted}
use Rattle.aim_grid_script.specs.Stages.{AreBlocks, EndsBlock, Takes, refusal_of}
use Rattle.aim_grid_script.proofs.Staging.{next_falls}

-- an `aim` line that doesn't end the block before it isn't taken
pub next_ended : (before : List GridLine) (b : Blocks) (n : ℕ) (r : HeaderRefusal) → AreBlocks before b → nat_le b.count (length b.whole.items + 1) ≡ false
    → (let p = parted before in EndsBlock p.block n (Err r)) → Takes before (line.Plain (plain.Version n)) (Err (refusal_of r))
next_ended before b n (header_refusal.Bad k) a early ends = next_falls before b n k a early ends
next_ended before b n header_refusal.NoMemory a early ends = tt
