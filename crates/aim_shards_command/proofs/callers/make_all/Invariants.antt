use Rattle.std.proofs.Common.{◌≡◌, ◌≤◌, ◌-◌, length, take}
use Rattle.aim_shards_command.specs.Said.{asked_of}
use Rattle.aim_shards_command.specs.Calling.{Works}
use Rattle.aim_shards_command.specs.Following.{Follows}
use Rattle.aim_shards_command.proofs.callers.make_all.Given as goal

abbrev pub invariant-loop-place : goal.invariant-loop-place
invariant-loop-place g l = record {
  works : Works l.shards l.caller;
  number : l.caller.pass.number ≡ l.initial.caller.pass.number;
  within : l.place ≤ length l.lines;
  follows : Follows (asked_of l.initial.caller.pass.number (take l.place l.lines)) l.caller.pass.mine;
}

abbrev pub decreases-loop-place : goal.decreases-loop-place
decreases-loop-place g l = length l.lines - l.place
