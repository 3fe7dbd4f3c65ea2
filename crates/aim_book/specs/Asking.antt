-- What is prepared for an answer.
-- No public clause cites it: only contracts of private functions.
use Rattle.std.specs.Prelude.{◌≡◌, ℕ, List, None, Some, Option, take}
use Rattle.std.specs.List.{list_any}
use Rattle.aim_messages.specs.declared.messages.Params.{Params}
use Rattle.aim_messages.specs.declared.replies.Reason.{Reason}
use Rattle.aim_layout.specs.Intersection.{Intersection}
use Rattle.aim_requests.specs.Requests.{IsPreparedFor, Request}
use Rattle.aim_requests.specs.Shapes.{arriving}
use Rattle.aim_sessions.specs.Calls.{is_call_in}
use Rattle.aim_rules.specs.Bad.{bad}
use Rattle.aim_rules.specs.History.{params_of}
use Rattle.aim_rules.specs.Known.{Known}
use Rattle.aim_rules.specs.Answer.{comes, tests}

-- the request is prepared for the layout, and has these params
pub record IsAsking (i : Intersection) (p : Params) (r : Request) : Type 0 where
  pub prepared : IsPreparedFor i r
  pub params : params_of r.message.body ≡ Some p

-- the request of these params has gone on to a start
pub record HasGoneTo (i : Intersection) (p : Params) (start : ℕ) (r : Request) : Type 0 where
  pub latest : ℕ
  pub asking : IsAsking i (arriving p start latest) r
  pub good : bad i (arriving p start latest) ≡ None

-- the calls, that of the request at hand among them, say in which lanes emergencies come
abbrev pub AreCalling : Intersection → Known → Params → List (Option (ℕ × ℕ)) → Type 0
AreCalling i k p calls = (lane : ℕ) → list_any (is_call_in k.now i.times.horizon lane) calls ≡ comes i k p lane

-- the tests that may decide before cells are prepared: those before the last, for which the call at hand is noted first
abbrev pub tests_at_once : List (Intersection → Known → Params → Option Reason)
tests_at_once = take 5 tests
