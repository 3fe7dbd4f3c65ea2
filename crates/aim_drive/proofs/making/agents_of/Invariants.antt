use Rattle.std.proofs.Common.{◌≡◌, ◌≤◌, take, length, vec_len}
use Rattle.std.specs.Prelude.{vec_capacity}
use Rattle.aim_drive.specs.Making.{AreAgentsFor, AreLeft}
use Rattle.aim_drive.proofs.making.agents_of.Given as goal

abbrev pub invariant-loop-planned : goal.invariant-loop-planned
invariant-loop-planned l = record {
  count : vec_len l.agents ≡ length l.yielded;
  room : length l.fn.plans.items ≤ vec_capacity l.agents;
  made : AreAgentsFor l.manager l.spans (take (length l.yielded) l.fn.plans.items) l.agents.items;
  left : AreLeft l.manager l.agents.items l.passes.items;
}
