use Rattle.std.proofs.Common.{◌≡◌, ℕ, None, [], refl, sym}
use Rattle.aim_messages.specs.declared.messages.Body.TheVariants as body
use Rattle.aim_sheets.specs.Sheets.{Spans}
use Rattle.aim_layout.specs.Intersection.{Intersection}
use Rattle.aim_requests.specs.Requests.{IsPreparedFor}
use Rattle.aim_requests.specs.Grounds.{alone}
use Rattle.aim_requests.proofs.requests.no_request.Goals as goal

-- an intersection whose sheets have so much room
with_room : ℕ → Intersection
with_room room = alone (record { side = 0; n = 0; spacing = 0; fixed = 0; half = 0; spans = room }) (record { horizon = 0; longest = 0; clearance = 0; early = 0; late = 0; edge = 0; window = 0 }) []

-- for which no request is prepared in two empty sheets of that room
is_none_for : (first second : Spans) → first.spans ≡ [] → second.spans ≡ [] → first.room ≡ second.room →
    IsPreparedFor (with_room first.room) (record { message = record { seq = 0; body = body.Cancel 0 }; bad = None; steps = record { fast = 0; steady = 0 }; first = first; second = second })
unfolding with_room
is_none_for first second f s room = record {
  field = refl;
  first_room = refl;
  second_room = sym room;
  steady = λ p e _. absurd (cc e);
  fast = λ p e made. absurd (cc e);
  steps = λ p e. absurd (cc e);
  unmade = λ p e made. absurd (cc e);
  untried = λ p e _. absurd (cc e);
  empty = λ e. (f, s);
}

pub invariant_of-result : goal.invariant_of-result
invariant_of-result c = (with_room c.args.first.room, is_none_for c.args.first c.args.second c.requires.first c.requires.second c.requires.room)
