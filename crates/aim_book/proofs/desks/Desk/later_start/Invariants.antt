use Rattle.std.proofs.Common.{◌≡◌, ℕ, ◌+◌, ◌-◌, ◌*◌, ◌<◌, ◌≤◌, false, None, length}
use Rattle.aim_requests.specs.Shapes.{arriving}
use Rattle.aim_rules.specs.Answer.{is_free}
use Rattle.aim_rules.specs.Bad.{bad}
use Rattle.aim_rules.specs.History.{given_up}
use Rattle.aim_rules.specs.Known.{Known}
use Rattle.aim_rules.specs.Windows.{trial_at}
use Rattle.aim_book.specs.Asking.{IsAsking}
use Rattle.aim_book.specs.Desk.{Tells}
use Rattle.aim_book.proofs.desks.Desk.later_start.Given as goal

-- the request is that of the start, and none so far behind the first one is free
abbrev pub invariant-loop-from : goal.invariant-loop-from
invariant-loop-from g l = record {
  low : l.params.arrive ≤ l.from;
  high : l.from ≤ l.params.latest;
  asking : (latest : ℕ) × (_ : IsAsking l.layout (arriving l.params l.from latest) l.prepared) × (bad l.layout (arriving l.params l.from latest) ≡ None);
  none : (k : Known) (place : ℕ) → Tells l.layout l.vehicle place k l.self → (r : ℕ) → l.params.arrive < r → r ≤ l.from → is_free l.layout k l.params (trial_at l.params r) ≡ false;
  given : given_up l.prepared.message.body ≡ given_up l.fn.prepared.message.body;
  first : length l.prepared.first.spans ≡ length l.fn.prepared.first.spans;
  second : length l.prepared.second.spans ≡ length l.fn.prepared.second.spans;
  cost : l.steps ≤ l.fn.steps + (l.from - l.params.arrive) * (length l.fn.prepared.first.spans + length l.fn.prepared.second.spans);
  counted : l.fn.steps ≤ l.steps;
}

abbrev pub decreases-loop-from : goal.decreases-loop-from
decreases-loop-from g l = l.params.latest - l.from
