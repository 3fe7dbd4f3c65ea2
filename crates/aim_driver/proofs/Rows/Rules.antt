-- Worked rows: logs that keep the rules, and logs that break one.
use Rattle.std.proofs.Common.{◌≡◌, true, false, List, [], ◌∷◌, ◌++◌, Some, None, refl}
use Rattle.aim_messages.specs.declared.messages.Body.TheVariants as body
use Rattle.aim_messages.specs.declared.replies.Reply.TheVariants as reply
use Rattle.aim_driver.specs.declared.logs.LogItem.{LogItem}
use Rattle.aim_driver.specs.declared.logs.LogItem.TheVariants as item
use Rattle.aim_driver.specs.Keeps.{keeps}
use Rattle.aim_driver.proofs.Rows.{car, sent, granted, refused}

abbrev asked : List LogItem
asked = sent 0 1 (body.Request (car 0 10)) ∷ item.Got 1 1 (granted 0 10 20) ∷ []

pub keeps_crossing : keeps (asked ++ item.Entered 10 0 ∷ sent 21 2 (body.Done 0) ∷ item.Got 22 2 (reply.Ack 0) ∷ []) ≡ true
keeps_crossing = refl

pub no_early_done : keeps (asked ++ item.Entered 10 0 ∷ sent 20 2 (body.Done 0) ∷ []) ≡ false
no_early_done = refl

pub no_message_inside : keeps (asked ++ item.Entered 10 0 ∷ sent 21 2 (body.Cancel 0) ∷ []) ≡ false
no_message_inside = refl

pub no_second_entry : keeps (asked ++ item.Entered 10 0 ∷ item.Entered 10 0 ∷ []) ≡ false
no_second_entry = refl

pub no_early_entry : keeps (asked ++ item.Entered 9 0 ∷ []) ≡ false
no_early_entry = refl

pub no_late_entry : keeps (asked ++ item.Entered 11 0 ∷ []) ≡ false
no_late_entry = refl

pub no_entry_after_stop : keeps (asked ++ item.Got 9 1 reply.EmergencyStop ∷ item.Entered 10 0 ∷ []) ≡ false
no_entry_after_stop = refl

pub no_entry_suspended : keeps (asked ++ sent 2 2 (body.Change 0 (car 0 40)) ∷ item.Entered 10 0 ∷ []) ≡ false
no_entry_suspended = refl

pub entry_after_refused_change : keeps (asked ++ sent 2 2 (body.Change 0 (car 0 40)) ∷ item.Got 3 2 (refused (Some 0)) ∷ item.Entered 10 0 ∷ []) ≡ true
entry_after_refused_change = refl

-- an old Confirm comes once more, behind a CANCEL
pub no_entry_on_old_confirm : keeps (asked ++ sent 2 2 (body.Cancel 0) ∷ item.Got 3 1 (granted 0 10 20) ∷ item.Entered 10 0 ∷ []) ≡ false
no_entry_on_old_confirm = refl

pub no_second_request : keeps (asked ++ sent 2 2 (body.Request (car 0 40)) ∷ []) ≡ false
no_second_request = refl

pub no_change_of_nothing : keeps (sent 2 1 (body.Change 0 (car 0 40)) ∷ []) ≡ false
no_change_of_nothing = refl

pub no_other_resend : keeps (sent 0 1 (body.Request (car 0 10)) ∷ sent 3 1 (body.Request (car 0 13)) ∷ []) ≡ false
no_other_resend = refl

pub no_falling_step : keeps (sent 3 1 (body.Request (car 0 10)) ∷ item.Got 2 1 (granted 0 10 20) ∷ []) ≡ false
no_falling_step = refl

-- drivers of other makes may enter as early and as late as they are granted

abbrev asked_wide : List LogItem
asked_wide = sent 0 1 (body.Request (car 0 10)) ∷ item.Got 1 1 (reply.Confirm 0 10 2 3 false 20) ∷ []

pub keeps_first_early_step : keeps (asked_wide ++ item.Entered 8 0 ∷ []) ≡ true
keeps_first_early_step = refl

pub no_step_before_it : keeps (asked_wide ++ item.Entered 7 0 ∷ []) ≡ false
no_step_before_it = refl

pub keeps_last_late_step : keeps (asked_wide ++ item.Entered 13 0 ∷ []) ≡ true
keeps_last_late_step = refl

pub no_step_past_it : keeps (asked_wide ++ item.Entered 14 0 ∷ []) ≡ false
no_step_past_it = refl

-- the crossing that began at 8 is over at 18
pub keeps_done_by_its_entry : keeps (asked_wide ++ item.Entered 8 0 ∷ sent 19 2 (body.Done 0) ∷ []) ≡ true
keeps_done_by_its_entry = refl

pub no_done_before : keeps (asked_wide ++ item.Entered 8 0 ∷ sent 18 2 (body.Done 0) ∷ []) ≡ false
no_done_before = refl

-- an older message may be sent again, and what it ends is ended
pub keeps_older_again : keeps (asked ++ sent 2 1 (body.Request (car 0 10)) ∷ item.Entered 10 0 ∷ []) ≡ true
keeps_older_again = refl

pub no_entry_after_an_older_cancel : keeps (asked ++ sent 2 2 (body.Cancel 0) ∷ item.Got 3 2 (reply.Ack 0) ∷ sent 4 3 (body.Request (car 0 12)) ∷ item.Got 5 3 (granted 2 12 22)
    ∷ sent 6 2 (body.Cancel 0) ∷ item.Entered 12 2 ∷ []) ≡ false
no_entry_after_an_older_cancel = refl

-- a new number need only be greater
pub keeps_skipped_numbers : keeps (sent 0 5 (body.Request (car 0 10)) ∷ item.Got 1 5 (granted 0 10 20) ∷ item.Entered 10 0 ∷ []) ≡ true
keeps_skipped_numbers = refl

-- a reply that came before its message was sent doesn't count
pub no_entry_on_a_reply_before : keeps (item.Got 0 1 (granted 0 10 20) ∷ sent 0 1 (body.Request (car 0 10)) ∷ item.Entered 10 0 ∷ []) ≡ false
no_entry_on_a_reply_before = refl

-- suspended: a further change of the same may be sent, one of another may not
pub keeps_second_change : keeps (asked ++ sent 2 2 (body.Change 0 (car 0 40)) ∷ sent 3 3 (body.Change 0 (car 0 60)) ∷ []) ≡ true
keeps_second_change = refl

pub no_change_of_another : keeps (asked ++ sent 2 2 (body.Change 1 (car 0 40)) ∷ []) ≡ false
no_change_of_another = refl

-- the window is that of the last Confirm of this reservation
pub no_entry_in_another_window : keeps (asked ++ sent 2 2 (body.Change 0 (car 0 40)) ∷ item.Got 3 2 (granted 1 40 50) ∷ item.Entered 10 1 ∷ []) ≡ false
no_entry_in_another_window = refl

pub keeps_entry_in_its_own : keeps (asked ++ sent 2 2 (body.Change 0 (car 0 40)) ∷ item.Got 3 2 (granted 1 40 50) ∷ item.Entered 40 1 ∷ []) ≡ true
keeps_entry_in_its_own = refl

pub no_request_while_suspended : keeps (asked ++ sent 2 2 (body.Change 0 (car 0 40)) ∷ sent 3 3 (body.Request (car 0 50)) ∷ []) ≡ false
no_request_while_suspended = refl

pub no_falling_sending : keeps (asked ++ sent 0 2 (body.Cancel 0) ∷ []) ≡ false
no_falling_sending = refl

pub no_falling_entry : keeps (asked ++ item.Got 11 1 (granted 0 10 20) ∷ item.Entered 10 0 ∷ []) ≡ false
no_falling_entry = refl

-- a CANCEL or a DONE ends a suspension, an answer of an older number doesn't

pub keeps_request_after_a_cancel : keeps (asked ++ sent 2 2 (body.Change 0 (car 0 40)) ∷ sent 3 3 (body.Cancel 0) ∷ sent 4 4 (body.Request (car 0 50)) ∷ []) ≡ true
keeps_request_after_a_cancel = refl

pub keeps_request_after_a_done : keeps (asked ++ sent 2 2 (body.Change 0 (car 0 40)) ∷ sent 3 3 (body.Done 0) ∷ sent 4 4 (body.Request (car 0 50)) ∷ []) ≡ true
keeps_request_after_a_done = refl

pub keeps_change_after_an_old_reply : keeps (asked ++ sent 2 2 (body.Change 0 (car 0 40)) ∷ item.Got 3 1 (granted 0 10 20) ∷ sent 4 3 (body.Change 0 (car 0 50)) ∷ []) ≡ true
keeps_change_after_an_old_reply = refl

pub no_change_after_the_answer : keeps (asked ++ sent 2 2 (body.Change 0 (car 0 40)) ∷ item.Got 3 2 (refused None) ∷ sent 4 3 (body.Change 0 (car 0 50)) ∷ []) ≡ false
no_change_after_the_answer = refl

-- any message that was sent may be sent again
pub keeps_first_message_again : keeps (asked ++ sent 2 2 (body.Cancel 0) ∷ sent 3 1 (body.Request (car 0 10)) ∷ []) ≡ true
keeps_first_message_again = refl
