-- How far drivers have come at step 20.
use Rattle.std.proofs.Common.{◌≡◌, ℕ, zero, suc, List, [], ◌∷◌, ◌++◌, None, refl}
use Rattle.aim_messages.specs.declared.messages.Body.TheVariants as body
use Rattle.aim_messages.specs.declared.replies.Reply.TheVariants as reply
use Rattle.aim_driver.specs.declared.logs.LogItem.{LogItem}
use Rattle.aim_driver.specs.declared.logs.LogItem.TheVariants as item
use Rattle.aim_driver.specs.Progress.{through, inside, shut_out, waiting, spent, asking, how_many, progress}
use Rattle.aim_driver.proofs.Rows.{car, sent, granted, refused, plain}

abbrev asks : List LogItem
asks = sent 0 1 (body.Request (car 0 10)) ∷ []

abbrev enters : List LogItem
enters = asks ++ item.Got 1 1 (granted 0 10 15) ∷ item.Entered 10 0 ∷ []

pub says_done : progress plain (enters ++ sent 16 2 (body.Done 0) ∷ []) 20 ≡ through
says_done = refl

pub is_on_its_way : progress plain enters 20 ≡ inside
is_on_its_way = refl

pub heard_a_stop : progress plain (asks ++ item.Got 1 1 reply.EmergencyStop ∷ []) 20 ≡ shut_out
heard_a_stop = refl

-- one that is inside is shut out by nothing
pub heard_a_stop_inside : progress plain (enters ++ item.Got 12 1 reply.EmergencyStop ∷ []) 20 ≡ inside
heard_a_stop_inside = refl

pub is_to_enter : progress plain (asks ++ item.Got 1 1 (granted 0 20 30) ∷ []) 20 ≡ waiting
is_to_enter = refl

pub is_refused : progress plain (asks ++ item.Got 1 1 (refused None) ∷ []) 20 ≡ asking
is_refused = refl

pub has_no_answer : progress plain asks 20 ≡ asking
has_no_answer = refl

pub did_nothing : progress plain [] 20 ≡ asking
did_nothing = refl

abbrev asks_often : ℕ → List LogItem
asks_often zero = []
asks_often (suc n) = sent 0 1 (body.Request (car 0 10)) ∷ asks_often n

pub asked_too_often : progress plain (asks_often 64) 20 ≡ spent
asked_too_often = refl

pub asked_once_less : progress plain (asks_often 63) 20 ≡ asking
asked_once_less = refl

-- with its last message it got a window that is to come
pub asked_to_the_last : progress plain (asks_often 64 ++ item.Got 1 1 (granted 0 20 30) ∷ []) 20 ≡ waiting
asked_to_the_last = refl

pub two_of_three : how_many asking (asking ∷ spent ∷ asking ∷ []) ≡ 2
two_of_three = refl
