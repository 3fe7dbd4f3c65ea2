use Rattle.std.proofs.Common.{◌≡◌, ◌<◌, ◌≤◌, ℕ, map, length, get_or, vec_len}
use Rattle.std.specs.Prelude.{vec_capacity}
use Rattle.aim_mail_command.specs.declared.callers.Caller.{Caller}
use Rattle.aim_mail_command.specs.Calling.{IsNewCaller}
use Rattle.aim_mail_command.proofs.running.seated.Given as goal

abbrev pub invariant-loop-client : goal.invariant-loop-client
invariant-loop-client l = record {
  count : vec_len l.callers ≡ length l.yielded;
  number : l.vehicle ≡ length l.yielded;
  room : length l.fn.clients.items ≤ vec_capacity l.callers;
  clients : map (λ c. c.client) l.callers.items ≡ l.yielded;
  callers : (k : ℕ) (d : Caller) → k < length l.callers.items → IsNewCaller k l.spans (get_or l.callers.items k d);
}
