use Rattle.std.proofs.Common.{◌≡◌, take, length}
use Rattle.aim_requests.proofs.memos.are_same_stations.Given as goal

-- the stations so far are the same, and there are as many
abbrev pub invariant-loop-at : goal.invariant-loop-at
invariant-loop-at l = record {
  same : take l.at l.a ≡ take l.at l.b;
  many : length l.a ≡ length l.b;
}
