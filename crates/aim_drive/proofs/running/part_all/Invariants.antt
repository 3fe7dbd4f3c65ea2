use Rattle.std.proofs.Common.{◌≡◌, ◌+◌, ◌≤◌, ◌++◌, map, length, vec_len}
use Rattle.std.specs.Prelude.{vec_capacity}
use Rattle.aim_agents.specs.Agents.{AgentModel}
use Rattle.aim_drive.specs.Making.{told_by, log_of}
use Rattle.aim_drive.proofs.running.part_all.Given as goal

abbrev pub invariant-loop-agent : goal.invariant-loop-agent
invariant-loop-agent l = record {
  count : vec_len l.logs ≡ length l.yielded;
  room : length l.fn.agents.items ≤ vec_capacity l.logs;
  space : vec_len l.passes + length l.fn.agents.items ≤ vec_capacity l.passes + length l.yielded;
  logs : map log_of l.logs.items ≡ map told_by l.yielded;
  passes : l.passes.items ≡ l.fn.passes.items ++ map (λ (a : AgentModel). a.pass) l.yielded;
}
