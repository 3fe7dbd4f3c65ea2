-- How many spans a message lets go of and takes, by the rows.
use Rattle.std.proofs.Common.{◌≡◌, ℕ, ◌≤◌, List, Option, Some, None, refl, ◌+◌, ◌*◌, [], ◌∷◌, ◌++◌, max, ◌∙◌, subst}
use Rattle.std.specs.Prelude.{◌-◌, min}
use Rattle.aim_messages.specs.declared.entries.Entry.{Entry}
use Rattle.aim_layout.specs.Intersection.{Intersection}
use Rattle.aim_rules.specs.History.{Fresh, now_of}
use Rattle.aim_book.specs.Costs.{exchanged, spans_exchanged}
use Rattle.aim_book.specs.Reserved.{IsRowOf, rows_exchanged}
use Rattle.aim_book.specs.Reservation.{Reservation}
use Rattle.aim_rules.proofs.HistoryLaws.{now_of-max}
use Rattle.aim_book.specs.State.{State}
use Rattle.aim_book.proofs.SameLemmas.{now_next}

-- the rows are what is kept
pub exchanged_is : (i : Intersection) (o p : Option Fresh) (old new : Option Reservation) → IsRowOf i o old → IsRowOf i p new → rows_exchanged old new ≡ exchanged i o p
exchanged_is i None None None None a b = refl
exchanged_is i None (Some y) None (Some t) a b = b.count
exchanged_is i (Some x) None (Some s) None a b = a.count
exchanged_is i (Some x) (Some y) (Some s) (Some t) a b = rw (a.id, b.id, a.count, b.count) refl
exchanged_is i None p (Some s) new a b = absurd a
exchanged_is i (Some x) p None new a b = absurd a
exchanged_is i None None None (Some t) a b = absurd b
exchanged_is i None (Some y) None None a b = absurd b
exchanged_is i (Some x) None (Some s) (Some t) a b = absurd b
exchanged_is i (Some x) (Some y) (Some s) None a b = absurd b

-- the cost by the rows and the table is that by the state
pub cost_served : (b s : State) (v : ℕ) (items : List Entry) (e : Entry) (start : Intersection → ℕ) (now moved size current horizon : ℕ) → b ≡ s → items ≡ b.journal ++ e ∷ [] → moved ≡ spans_exchanged b.layout v b.journal (b.journal ++ e ∷ []) →
    size ≡ b.layout.grid.n → current ≡ now_of b.journal 0 → horizon ≡ b.layout.times.horizon → now ≤ start b.layout + moved + size * min (max current e.moment - current) horizon →
    now ≤ start s.layout + spans_exchanged s.layout v s.journal items + s.layout.grid.n * min (now_of items 0 - now_of s.journal 0) s.layout.times.horizon
cost_served b s v items e start now moved size current horizon same is moved_is size_is current_is horizon_is cost =
    let later : now_of (b.journal ++ e ∷ []) 0 ≡ max (now_of b.journal 0) e.moment = now_next b.journal e ∙ now_of-max b.journal e.moment in
    subst (λ (t : State). now ≤ start t.layout + spans_exchanged t.layout v t.journal items + t.layout.grid.n * min (now_of items 0 - now_of t.journal 0) t.layout.times.horizon) same
    (rw (is, later, ← moved_is) (rw (size_is, current_is, horizon_is) at cost))
