-- A vehicle that accelerates, and time buffers.
use Rattle.std.proofs.Common.{◌≡◌, ℕ, [], ◌∷◌, None, refl, true, false}
use Rattle.aim_messages.specs.declared.messages.Body.TheVariants.{Request}
use Rattle.aim_messages.specs.declared.replies.Reason.TheVariants.{Taken, Distance}
use Rattle.aim_messages.specs.declared.replies.Reply.{Reply}
use Rattle.aim_messages.specs.declared.replies.Reply.TheVariants.{Confirm}
use Rattle.aim_rules.specs.Journals.{Call}
use Rattle.aim_rules.proofs.Rows.{small, buffered_small, send, ask, steady, reject, replies, car}

abbrev sprint : ℕ → Call
sprint arrive = send 1 0 1 (Request (let p = car 0 arrive in record p { max_speed = 1000; accel = 250 }))

pub fast_trial_blocked_steady_granted : replies small (ask 0 0 1 1 10 ∷ sprint 14 ∷ []) ≡ steady 0 10 20 ∷ steady 1 14 24 ∷ []
fast_trial_blocked_steady_granted = refl

pub both_trials_blocked : replies small (ask 0 0 1 1 10 ∷ sprint 13 ∷ []) ≡ steady 0 10 20 ∷ reject (Taken 1 2 16 0) 6 None ∷ []
both_trials_blocked = refl

pub fast_trial_granted : replies small (ask 0 0 1 1 10 ∷ sprint 18 ∷ []) ≡ steady 0 10 20 ∷ Confirm 1 18 0 0 true 23 ∷ []
fast_trial_granted = refl

abbrev buffered : ℕ → ℕ → ℕ → Reply
buffered id start end = Confirm id start 1 1 false end

pub taken_by_an_edge_buffer : replies buffered_small (ask 0 0 1 0 10 ∷ ask 1 0 1 0 19 ∷ []) ≡ buffered 0 10 20 ∷ reject (Taken 1 3 22 0) 9 None ∷ []
taken_by_an_edge_buffer = refl

pub taken_by_an_inner_buffer : replies buffered_small (ask 0 0 1 0 10 ∷ ask 1 0 1 1 19 ∷ []) ≡ buffered 0 10 20 ∷ reject (Taken 1 2 19 0) 9 None ∷ []
taken_by_an_inner_buffer = refl

pub free_behind_an_inner_buffer : replies buffered_small (ask 0 0 1 0 10 ∷ ask 1 0 1 1 20 ∷ []) ≡ buffered 0 10 20 ∷ buffered 1 20 30 ∷ []
free_behind_an_inner_buffer = refl

pub distance : replies small (ask 0 0 1 0 10 ∷ ask 1 0 1 1 10 ∷ ask 2 0 1 1 12 ∷ ask 3 8 1 1 18 ∷ ask 2 12 2 1 24 ∷ []) ≡ steady 0 10 20 ∷ reject (Taken 1 2 13 0) 5 None ∷ reject (Distance 5000) 6 None ∷ steady 3 18 28 ∷ steady 4 24 34 ∷ []
distance = refl
