-- What was sent on a link, which fate each sending took, how often it came since, and what comes next.
use Rattle.std.specs.Prelude.{◌≡◌, ◌⊎◌, ℕ, ◌+◌, ◌-◌, ◌<◌, ◌≤◌, min, Bool, false, ◌==◌, nat_le, List, [], ◌∷◌, ◌++◌, length, fold, sum_by, position, slice_get, slice_set, Option, Some, None, option_and_then, option_map, unwrap_or, if◌then◌else◌}
use Rattle.aim_driver.specs.declared.links.Fate.{Fate}
use Rattle.aim_driver.specs.declared.links.Fate.TheVariants as fate
use Rattle.aim_driver.specs.declared.links.Sending.{Sending}

-- a link: the lag, the fates of its first sendings, and all that was sent, in order
pub record LinkModel (T : Type 0) : Type 0 where
  pub lag : ℕ
  pub fates : List Fate
  pub sent : List (Sending T)

-- the steps at which an item comes that comes at the step `at` where it is just delivered
abbrev pub dues : ℕ → Fate → List ℕ
dues at fate.Deliver = at ∷ []
dues at fate.Lose = []
dues at fate.Repeat = at ∷ (at + 1) ∷ []
dues at (fate.Delay more) = (at + more) ∷ []

-- the fate that the sending of that place takes: behind the list all are delivered
abbrev pub fate_at : List Fate → ℕ → Fate
fate_at fates place = unwrap_or (slice_get fates place) fate.Deliver

-- the sooner of two steps, where there is one
abbrev pub sooner : Option ℕ → Option ℕ → Option ℕ
sooner None due = due
sooner (Some due) None = Some due
sooner (Some due) (Some due') = Some (min due due')

abbrev pub is_step : Option ℕ → ℕ → Bool
is_step None step = false
is_step (Some due) step = due == step

module _ {T : Type 0} where
  -- the step at which it comes next, if it does
  abbrev pub next_due : ℕ → Sending T → Option ℕ
  next_due lag s = slice_get (dues (s.step + lag) s.fate) s.came

  -- how often it is still to come
  abbrev pub copies_left : Sending T → ℕ
  copies_left s = length (dues s.step s.fate) - s.came

  abbrev pub under_way : LinkModel T → ℕ
  under_way l = sum_by copies_left l.sent

  abbrev pub new_link : ℕ → List Fate → LinkModel T
  new_link lag fates = record { lag = lag; fates = fates; sent = [] }

  -- after a sending
  abbrev pub sent_on : LinkModel T → ℕ → T → LinkModel T
  sent_on l step item = record l {
    sent = l.sent ++ record { step = step; item = item; fate = fate_at l.fates (length l.sent); came = 0 } ∷ [];
  }

  -- the least step at which anything comes
  abbrev pub earliest : ℕ → List (Sending T) → Option ℕ
  earliest lag ss = fold (λ due s. sooner due (next_due lag s)) None ss

  -- the first sending that comes at the step `due`
  abbrev pub first_at : ℕ → List (Sending T) → ℕ → Option ℕ
  first_at lag ss due = position (λ s. is_step (next_due lag s) due) ss

  abbrev pub first_by : ℕ → List (Sending T) → ℕ → Option ℕ → Option ℕ
  first_by lag ss step None = None
  first_by lag ss step (Some due) = if nat_le due step then first_at lag ss due else None

  -- the first sending that comes at the step or before it, by the step at which it comes and then by the order of
  -- sending
  abbrev pub next_place : LinkModel T → ℕ → Option ℕ
  next_place l step = first_by l.lag l.sent step (earliest l.lag l.sent)

  abbrev pub item_of : Sending T → T
  item_of s = s.item

  -- the item that comes
  abbrev pub delivered : LinkModel T → ℕ → Option T
  delivered l step = option_and_then (λ k. option_map item_of (slice_get l.sent k)) (next_place l step)

  abbrev pub came_again : List (Sending T) → ℕ → Option (Sending T) → List (Sending T)
  came_again ss k None = ss
  came_again ss k (Some s) = slice_set ss k (record s { came = s.came + 1 })

  abbrev pub after_coming : List (Sending T) → Option ℕ → List (Sending T)
  after_coming ss None = ss
  after_coming ss (Some k) = came_again ss k (slice_get ss k)

  -- after it came
  abbrev pub after_delivery : LinkModel T → ℕ → LinkModel T
  after_delivery l step = record l { sent = after_coming l.sent (next_place l step) }

-- The sending of that place comes at the step or before it. No other comes sooner, nor at the same step and before it
-- in the order of sending.
pub record IsNext (T : Type 0) (l : LinkModel T) (step place : ℕ) : Type 0 where
  pub sending : Sending T
  pub due : ℕ
  pub stands : slice_get l.sent place ≡ Some sending
  pub comes : next_due l.lag sending ≡ Some due
  pub in_time : due ≤ step
  pub first : (j : ℕ) (s : Sending T) (e : ℕ) → slice_get l.sent j ≡ Some s → next_due l.lag s ≡ Some e → (due < e) ⊎ (due ≡ e) × (place ≤ j)

-- nothing comes at the step or before it
abbrev pub NoneComes : (T : Type 0) → LinkModel T → ℕ → Type 0
NoneComes T l step = (j : ℕ) (s : Sending T) (e : ℕ) → slice_get l.sent j ≡ Some s → next_due l.lag s ≡ Some e → step < e
