-- Lights and emergencies.
use Rattle.std.proofs.Common.{◌≡◌, [], ◌∷◌, None, refl}
use Rattle.aim_messages.specs.declared.messages.Body.TheVariants.{Request}
use Rattle.aim_messages.specs.declared.replies.Reason.TheVariants.{Taken, Far, Green, Emergency}
use Rattle.aim_messages.specs.declared.replies.Reply.TheVariants.{Switched, Ack}
use Rattle.aim_rules.proofs.Rows.{small, siren_small, send, ask, switch, finish, steady, reject, replies, ambulance}

pub switch_to_lights : replies small (switch 5 1 ∷ ask 0 5 1 1 1494 ∷ ask 1 5 1 1 1520 ∷ ask 1 100 2 1 1530 ∷ ask 2 100 1 0 1530 ∷ []) ≡ Switched 1505 ∷ steady 1 1494 1504 ∷ reject (Far 1505) 30 None ∷ reject (Green 1 2 1531 0) 125 None ∷ steady 4 1530 1540 ∷ []
switch_to_lights = refl

pub switch_back : replies small (switch 0 1 ∷ switch 60 0 ∷ ask 0 100 1 1 1578 ∷ ask 1 101 1 1 1579 ∷ []) ≡ Switched 1500 ∷ Switched 1560 ∷ reject (Green 1 2 1579 0) 125 None ∷ steady 3 1579 1589 ∷ []
switch_back = refl

pub emergency : replies siren_small (ask 0 0 1 0 10 ∷ send 1 0 1 (Request (ambulance 1 10)) ∷ ask 2 0 1 0 40 ∷ send 1 8 2 (Request (ambulance 1 18)) ∷ finish 1 29 3 3 ∷ ask 2 30 2 0 60 ∷ []) ≡ steady 0 10 20 ∷ reject (Taken 1 2 13 0) 5 None ∷ reject (Emergency 1) 20 None ∷ steady 3 18 28 ∷ Ack 3 ∷ steady 5 60 70 ∷ []
emergency = refl
