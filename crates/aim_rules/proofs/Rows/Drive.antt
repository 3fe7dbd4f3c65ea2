-- The journal of the worked drive.
use Rattle.std.proofs.Common.{◌≡◌, [], ◌∷◌, None, refl}
use Rattle.aim_messages.specs.declared.replies.Reason.TheVariants.{Taken, Distance}
use Rattle.aim_messages.specs.declared.replies.Reply.TheVariants.{Switched, Ack}
use Rattle.aim_rules.proofs.Rows.{small, ask, switch, cancel, finish, steady, reject, replies}

pub journal_of_a_drive : replies small (ask 1 1 1 1 13 ∷ switch 2 1 ∷ ask 0 3 1 0 10 ∷ ask 1 4 1 1 13 ∷ ask 0 6 2 0 16 ∷ cancel 1 7 2 0 ∷ ask 1 8 3 1 20 ∷ ask 0 11 3 0 18 ∷ ask 0 14 4 0 21 ∷ ask 0 17 5 0 24 ∷ finish 1 31 4 6 ∷ finish 0 35 6 9 ∷ [])
    ≡ steady 0 13 23 ∷ Switched 1502 ∷ reject (Taken 1 2 14 1) 6 None ∷ steady 0 13 23 ∷ reject (Distance 3500) 11 None ∷ Ack 0 ∷ steady 6 20 30 ∷ reject (Taken 1 2 21 1) 14 None ∷ reject (Taken 1 2 24 1) 17 None ∷ steady 9 24 34 ∷ Ack 6 ∷ Ack 9 ∷ []
journal_of_a_drive = refl
