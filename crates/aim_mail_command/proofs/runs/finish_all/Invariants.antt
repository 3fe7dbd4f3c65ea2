use Rattle.std.proofs.Common.{◌≡◌, ◌≤◌, map, length, vec_len}
use Rattle.std.specs.Prelude.{vec_capacity}
use Rattle.aim_mail_command.proofs.runs.finish_all.Given as goal

abbrev pub invariant-loop-caller : goal.invariant-loop-caller
invariant-loop-caller g l = record {
  count : vec_len l.ended ≡ length l.yielded;
  room : length l.fn.callers.items ≤ vec_capacity l.ended;
  ended : l.ended.items ≡ map (λ c. c.client) l.yielded;
}
