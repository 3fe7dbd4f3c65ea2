-- The logs of a vehicle are in order.
use Rattle.std.proofs.Common.{◌≡◌, ℕ, ◌+◌, ◌<◌, ◌≤◌, List, [], ◌∷◌, map, Option, Some, None, refl, subst, arith}
use Rattle.aim_messages.specs.declared.entries.Entry.{Entry}
use Rattle.aim_driver.specs.declared.logs.LogItem.{LogItem}
use Rattle.aim_driver.specs.Fits.{replies_of}
use Rattle.aim_driver.specs.Follows.{Call}
use Rattle.aim_grid.specs.Acked.{acked, begun_at}
use Rattle.aim_grid.specs.Route.{EachStep, IsBehind, IsRoute}
use Rattle.aim_grid.proofs.Logs.{EachStep-weaker, follows_begins}
use Rattle.aim_grid.specs.Travelled.{Ride, IsLeg, AreLegs, AreLate, log_of}

above : (until : ℕ) (h : List Entry) (s : ℕ) (r : Ride) → 1 ≤ r.plan.first → IsLeg until h (Some s) r → EachStep (λ t. s < t) r.log
above until h s r late f =
    EachStep-weaker (λ t. s + r.plan.first ≤ t) (λ t. s < t) r.log (λ t le. omega arith)
    (subst (λ (p : List LogItem × List Call). EachStep (λ t. s + r.plan.first ≤ t) p.0) f.course (follows_begins (begun_at s r.plan) [] [] until (replies_of h r.vehicle)))

behind : (before log : List LogItem) (s : ℕ) → acked before ≡ Some s → EachStep (λ t. s < t) log → IsBehind before log
behind before [] s is each = tt
behind before (x ∷ xs) s is each = (s, is, each)

nothing : (before log : List LogItem) → log ≡ [] → IsBehind before log
nothing before [] e = tt
nothing before (x ∷ xs) e = absurd (cc e)

one_behind : (until : ℕ) (h : List Entry) (before : List LogItem) (r : Ride) → 1 ≤ r.plan.first → IsLeg until h (acked before) r → IsBehind before r.log
one_behind until h before r late leg = go (acked before) refl leg
  where
    go : (o : Option ℕ) → acked before ≡ o → IsLeg until h o r → IsBehind before r.log
    go None e l = nothing before r.log l.0
    go (Some s) e l = behind before r.log s e (above until h s r late l)

pub in_order : (until : ℕ) (journal : ℕ → List Entry) (begun : Option ℕ) (rides : List Ride) → AreLate rides → AreLegs until journal begun rides → IsRoute (map log_of rides)
in_order until journal begun [] late legs = tt
in_order until journal begun (r ∷ []) late legs = tt
in_order until journal begun (r ∷ q ∷ rs) late legs =
    (one_behind until (journal q.crossing) r.log q late.1.0 legs.1.0, in_order until journal (acked r.log) (q ∷ rs) late.1 legs.1)
