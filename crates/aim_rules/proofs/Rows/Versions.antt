-- Early and late windows apart, and lights that give way.
use Rattle.std.proofs.Common.{◌≡◌, ℕ, [], ◌∷◌, None, refl, false}
use Rattle.aim_messages.specs.declared.replies.Reason.TheVariants.{Taken, Emergency, Green}
use Rattle.aim_messages.specs.declared.messages.Body.TheVariants.{Request}
use Rattle.aim_messages.specs.declared.replies.Reply.{Reply}
use Rattle.aim_messages.specs.declared.replies.Reply.TheVariants.{Confirm, Ack}
use Rattle.aim_layout.specs.declared.policies.PolicyKind.TheVariants.{LightEmerg}
use Rattle.aim_layout.specs.Intersection.{Intersection}
use Rattle.aim_rules.proofs.Rows.{crossing, plain, lights, siren, ask, send, finish, ambulance, reject, replies, steady}

abbrev v2 : Intersection
v2 = crossing (record { horizon = 1500; longest = 25; clearance = 20; early = 1; late = 3; edge = 4; window = 0 }) (plain ∷ lights ∷ siren ∷ [])

abbrev wide : ℕ → ℕ → ℕ → Reply
wide id start end = Confirm id start 1 3 false end

pub taken_in_the_late_window : replies v2 (ask 0 0 1 0 10 ∷ ask 1 0 1 1 21 ∷ []) ≡ wide 0 10 20 ∷ reject (Taken 1 2 21 0) 10 None ∷ []
taken_in_the_late_window = refl

pub free_behind_the_late_window : replies v2 (ask 0 0 1 0 10 ∷ ask 1 0 1 1 22 ∷ []) ≡ wide 0 10 20 ∷ wide 1 22 32 ∷ []
free_behind_the_late_window = refl

pub journal_of_a_drive_with_windows : replies v2 (ask 0 0 1 0 10 ∷ finish 0 20 2 0 ∷ []) ≡ wide 0 10 20 ∷ Ack 0 ∷ []
journal_of_a_drive_with_windows = refl

abbrev v3 : Intersection
v3 = crossing (record { horizon = 1500; longest = 25; clearance = 20; early = 0; late = 0; edge = 0; window = 0 }) (record { kind = LightEmerg; phases = record { red = 20; green = 80; lanes = 1 } ∷ record { red = 20; green = 80; lanes = 2 } ∷ [] } ∷ [])

pub lights_that_give_way : replies v3 (send 1 0 1 (Request (ambulance 1 5)) ∷ ask 0 0 1 0 30 ∷ finish 1 16 2 0 ∷ ask 0 16 2 0 30 ∷ ask 2 16 1 1 30 ∷ []) ≡ steady 0 5 15 ∷ reject (Emergency 1) 15 None ∷ Ack 0 ∷ steady 3 30 40 ∷ reject (Green 1 2 31 0) 23 None ∷ []
lights_that_give_way = refl
