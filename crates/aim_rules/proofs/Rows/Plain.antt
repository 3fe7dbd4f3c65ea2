-- Under the plain policy.
use Rattle.std.proofs.Common.{◌≡◌, [], ◌∷◌, Some, None, refl}
use Rattle.aim_messages.specs.declared.messages.Turn.TheVariants.{Left}
use Rattle.aim_messages.specs.declared.messages.Body.TheVariants.{Request}
use Rattle.aim_messages.specs.declared.replies.Field.TheVariants as field
use Rattle.aim_messages.specs.declared.replies.Reason.TheVariants.{Late, Far, Taken, Holds, Reused, NoReservation, Begun, Bad, TooSoon}
use Rattle.aim_messages.specs.declared.replies.Reply.TheVariants.{Stale, EmergencyStop, Stopped, Ack}
use Rattle.aim_rules.proofs.Rows.{small, send, ask, change, cancel, stop, steady, reject, replies, car}

pub first_confirm : replies small (ask 0 0 1 0 10 ∷ []) ≡ steady 0 10 20 ∷ []
first_confirm = refl

pub taken_ahead : replies small (ask 0 0 1 0 10 ∷ ask 1 0 1 1 10 ∷ []) ≡ steady 0 10 20 ∷ reject (Taken 1 2 13 0) 5 None ∷ []
taken_ahead = refl

pub free_behind : replies small (ask 0 0 1 0 10 ∷ ask 1 0 1 1 18 ∷ []) ≡ steady 0 10 20 ∷ steady 1 18 28 ∷ []
free_behind = refl

pub taken_by_one_step : replies small (ask 0 0 1 0 10 ∷ ask 1 0 1 1 17 ∷ []) ≡ steady 0 10 20 ∷ reject (Taken 1 2 18 0) 8 None ∷ []
taken_by_one_step = refl

pub late : replies small (ask 0 10 1 0 10 ∷ ask 1 10 1 0 11 ∷ []) ≡ reject (Late 10) 11 None ∷ steady 1 11 21 ∷ []
late = refl

pub far : replies small (ask 0 0 1 0 1490 ∷ ask 1 0 1 0 1489 ∷ []) ≡ reject (Far 1500) 25 None ∷ steady 1 1489 1499 ∷ []
far = refl

pub repeat_and_reused : replies small (ask 0 0 1 0 10 ∷ ask 0 0 1 0 10 ∷ ask 0 0 1 0 12 ∷ []) ≡ steady 0 10 20 ∷ steady 0 10 20 ∷ reject (Reused 1) 0 (Some 0) ∷ []
repeat_and_reused = refl

pub holds_and_stale : replies small (ask 0 0 1 0 10 ∷ ask 0 1 4 0 40 ∷ cancel 0 1 3 0 ∷ []) ≡ steady 0 10 20 ∷ reject (Holds 0) 0 (Some 0) ∷ Stale 4 ∷ []
holds_and_stale = refl

pub change_then_no_reservation : replies small (ask 0 0 1 0 10 ∷ change 0 1 5 0 0 40 ∷ change 0 2 6 0 0 60 ∷ []) ≡ steady 0 10 20 ∷ steady 1 40 50 ∷ reject NoReservation 0 (Some 1) ∷ []
change_then_no_reservation = refl

pub change_over_own_cells : replies small (ask 0 0 1 0 10 ∷ change 0 0 2 0 0 12 ∷ []) ≡ steady 0 10 20 ∷ steady 1 12 22 ∷ []
change_over_own_cells = refl

pub change_of_a_begun_crossing : replies small (ask 0 0 1 0 10 ∷ change 0 10 2 0 0 40 ∷ []) ≡ steady 0 10 20 ∷ reject (Begun 10) 0 (Some 0) ∷ []
change_of_a_begun_crossing = refl

pub after_stop : replies small (ask 0 0 1 0 10 ∷ stop 3 ∷ ask 1 3 1 1 40 ∷ cancel 0 4 2 0 ∷ []) ≡ steady 0 10 20 ∷ Stopped ∷ EmergencyStop ∷ Ack 0 ∷ []
after_stop = refl

pub bad_lane : replies small (send 0 0 1 (Request (car 2 10)) ∷ []) ≡ reject (Bad field.Lane) 5 None ∷ []
bad_lane = refl

pub bad_turn : replies small (send 0 0 1 (Request (let p = car 0 10 in record p { turn = Left })) ∷ []) ≡ reject (Bad field.Turn) 5 None ∷ []
bad_turn = refl

pub bad_speed : replies small (send 0 0 1 (Request (let p = car 0 10 in record p { speed = 600 })) ∷ []) ≡ reject (Bad field.Speed) 5 None ∷ []
bad_speed = refl

pub bad_steps : replies small (send 0 0 1 (Request (let p = car 0 10 in record p { speed = 2; max_speed = 2 })) ∷ []) ≡ reject (Bad field.Steps) 5 None ∷ []
bad_steps = refl

pub too_soon : replies small (ask 0 0 1 0 10 ∷ ask 1 3 1 1 10 ∷ ask 1 5 2 1 18 ∷ []) ≡ steady 0 10 20 ∷ reject (Taken 1 2 13 0) 6 None ∷ reject (TooSoon 6) 6 None ∷ []
too_soon = refl

pub free_once_given_up : replies small (ask 0 0 1 0 10 ∷ ask 1 0 1 1 10 ∷ cancel 0 1 2 0 ∷ ask 1 5 2 1 10 ∷ []) ≡ steady 0 10 20 ∷ reject (Taken 1 2 13 0) 5 None ∷ Ack 0 ∷ steady 3 10 20 ∷ []
free_once_given_up = refl

pub taken_while_another_is_given_up : replies small (ask 0 0 1 0 10 ∷ ask 1 0 1 1 10 ∷ cancel 0 1 2 7 ∷ ask 1 5 2 1 10 ∷ []) ≡ steady 0 10 20 ∷ reject (Taken 1 2 13 0) 5 None ∷ Ack 7 ∷ reject (Taken 1 2 13 0) 7 None ∷ []
taken_while_another_is_given_up = refl
