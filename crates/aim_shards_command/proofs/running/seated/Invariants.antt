use Rattle.std.proofs.Common.{◌≡◌, ◌≤◌, length}
use Rattle.std.specs.Prelude.{All, vec_len, vec_capacity}
use Rattle.aim_shards.specs.Models.{ShardsModel}
use Rattle.aim_shards_command.specs.Running.{IsNew, IsReady}
use Rattle.aim_shards_command.proofs.running.seated.Given as goal

abbrev pub invariant-loop-pass : goal.invariant-loop-pass
invariant-loop-pass l = record {
  count : vec_len l.callers ≡ length l.yielded;
  room : length l.fn.passes.items ≤ vec_capacity l.callers;
  ready : (s : ShardsModel) → All (IsNew s) l.fn.passes.items → All (IsReady s) l.callers.items;
}
