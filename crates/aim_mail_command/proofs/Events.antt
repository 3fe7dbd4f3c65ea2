-- A vehicle's events in the list of all events, place by place.
use Rattle.std.proofs.Common.{◌≡◌, ◌≢◌, ℕ, ◌+◌, ◌<◌, Bool, cond, List, [], ◌∷◌, ◌++◌, length, map, take, get_or, ap, ◌∙◌}
use Rattle.std.specs.Prelude.{◌==◌}
use Rattle.std.proofs.lemmas.Bool.{eq-eqb, ne_eqb}
use Rattle.std.proofs.lemmas.List.{append-nil, map-append}
use Rattle.std.proofs.lemmas.List.Elements.{filter_more}
use Rattle.aim_mail_script.specs.declared.scripts.Event.{Event}
use Rattle.aim_mail_command.specs.Runs.{calls_by, event_call, events_by}

abbrev is_by : ℕ → Event → Bool
is_by v e = e.vehicle == v

next : (v : ℕ) (events : List Event) (k : ℕ) (d : Event) → k < length events → calls_by v (take (k + 1) events) ≡ calls_by v (take k events) ++ map event_call (cond (is_by v (get_or events k d)) (get_or events k d ∷ []) [])
next v events k d lt = ap (map event_call) (filter_more (is_by v) events k d lt) ∙ map-append event_call (events_by v (take k events)) (cond (is_by v (get_or events k d)) (get_or events k d ∷ []) [])

-- an event of another vehicle adds nothing
pub passed_more : (v : ℕ) (events : List Event) (k : ℕ) (d : Event) → k < length events → (get_or events k d).vehicle ≢ v → calls_by v (take (k + 1) events) ≡ calls_by v (take k events)
passed_more v events k d lt other =
    let x = get_or events k d in
    next v events k d lt ∙ ap (λ b. calls_by v (take k events) ++ map event_call (cond b (x ∷ []) [])) (ne_eqb x.vehicle v other) ∙ append-nil (calls_by v (take k events))

-- an event of the vehicle adds its call
pub own_more : (v : ℕ) (events : List Event) (k : ℕ) (d : Event) → k < length events → (get_or events k d).vehicle ≡ v → calls_by v (take (k + 1) events) ≡ calls_by v (take k events) ++ event_call (get_or events k d) ∷ []
own_more v events k d lt own =
    let x = get_or events k d in
    next v events k d lt ∙ ap (λ b. calls_by v (take k events) ++ map event_call (cond b (x ∷ []) [])) (eq-eqb x.vehicle v own)
