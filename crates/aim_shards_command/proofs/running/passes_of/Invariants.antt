use Rattle.std.proofs.Common.{◌≡◌, ◌≤◌, length, List}
use Rattle.std.specs.Prelude.{All, vec_len, vec_capacity}
use Rattle.aim_shards.specs.Models.{ShardsModel}
use Rattle.aim_shards_command.specs.declared.lines.ShardLine.{ShardLine}
use Rattle.aim_shards_command.specs.Running.{HasCalled, HasDone}
use Rattle.aim_shards_command.proofs.running.passes_of.Given as goal

abbrev pub invariant-loop-caller : goal.invariant-loop-caller
invariant-loop-caller l = record {
  count : vec_len l.passes ≡ length l.yielded;
  room : length l.fn.callers.items ≤ vec_capacity l.passes;
  done : (s : ShardsModel) (lines : List ShardLine) → All (HasCalled s lines) l.fn.callers.items → All (HasDone s lines) l.passes.items;
}
