-- A message without params is prepared with two empty sheets.
use Rattle.std.proofs.Common.{◌≡◌, [], None, Some, refl}
use Rattle.aim_messages.specs.declared.messages.Message.{Message}
use Rattle.aim_layout.specs.Intersection.{Intersection}
use Rattle.aim_sheets.specs.Sheets.{Spans}
use Rattle.aim_rules.specs.History.{params_of}
use Rattle.aim_requests.specs.Requests.{IsPreparedFor}

pub none_prepared : (i : Intersection) (m : Message) (first second : Spans) → params_of m.body ≡ None → first ≡ record { spans = []; room = i.grid.spans } → second ≡ record { spans = []; room = i.grid.spans } →
    IsPreparedFor i (record { message = m; bad = None; steps = record { fast = 0; steady = 0 }; first = first; second = second })
none_prepared i m first second none a b = record {
  field = rw none refl;
  first_room = rw a refl;
  second_room = rw b refl;
  steady = λ p h _. absurd (let e : None ≡ Some p = rw none at h in cc);
  fast = λ p h _. absurd (let e : None ≡ Some p = rw none at h in cc);
  steps = λ p h. absurd (let e : None ≡ Some p = rw none at h in cc);
  unmade = λ p h _. absurd (let e : None ≡ Some p = rw none at h in cc);
  untried = λ p h _. absurd (let e : None ≡ Some p = rw none at h in cc);
  empty = λ h. (rw a refl, rw b refl);
}
