use Rattle.std.proofs.Common.{◌≡◌, ◌≤◌, length, vec_len}
use Rattle.std.specs.Prelude.{vec_capacity}
use Rattle.bench_manager.proofs.mailbox.finish_all.Given as goal

-- what the clients so far left
abbrev pub invariant-loop-client : goal.invariant-loop-client
invariant-loop-client g l = record {
  count : vec_len l.ended ≡ length l.yielded;
  room : length l.fn.clients.items ≤ vec_capacity l.ended;
  ended : l.ended.items ≡ l.yielded;
}
