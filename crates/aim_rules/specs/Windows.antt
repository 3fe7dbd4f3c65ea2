-- Words of the laws of windows: trials that move with their start, cells that can't be had, who may wait for all
-- others, and the two trials of a request with one arrival.
use Rattle.std.specs.Prelude.{◌≡◌, ◌⊎◌, ℕ, ◌+◌, ◌<◌, ◌≤◌, true, false, ◌&&◌, ◌==◌, List, None, Some, is_none, if◌then◌else◌}
use Rattle.aim_messages.specs.declared.messages.Params.{Params}
use Rattle.aim_messages.specs.declared.messages.Message.{Message}
use Rattle.aim_messages.specs.declared.entries.Entry.{Entry}
use Rattle.aim_messages.specs.declared.replies.Reply.{Reply}
use Rattle.aim_geometry.specs.Cells.{Cell}
use Rattle.aim_layout.specs.Intersection.{Intersection}
use Rattle.aim_rules.specs.Cells.{IsIn}
use Rattle.aim_rules.specs.Trials.{Trial, trial_cells, is_fast_made}
use Rattle.aim_rules.specs.Lights.{green_at}
use Rattle.aim_rules.specs.Timeline.{policy_at}
use Rattle.aim_rules.specs.History.{Fresh, fresh, is_fresh_seq, params_of}
use Rattle.aim_rules.specs.Holds.{granted, reservations}
use Rattle.aim_rules.specs.Blame.{IsClaimedBy, IsHeldBy}
use Rattle.aim_rules.specs.Known.{Known, is_stopped, known_after}
use Rattle.aim_rules.specs.Answer.{confirmation, first_blocked, first_reason, own_refusal, refused_or}

-- the cell so many steps later
abbrev pub later : ℕ → Cell → Cell
later steps c = record c { step = c.step + steps }

-- the trial at a step of the window
abbrev pub trial_at : Params → ℕ → Trial
trial_at p s = record { start = s; fast = is_fast_made p }

-- the vehicle v, of that lane, can't have the cell: another vehicle holds it, or another lane claims it by its green
abbrev pub IsBlockedFor : Intersection → List Entry → ℕ → ℕ → ℕ → Cell → Type 0
IsBlockedFor i h now v lane c = ((by : ℕ) × (x : Fresh) × IsHeldBy i h now v by c x) ⊎ ((by : ℕ) × IsClaimedBy i h lane by c)

-- the message is fresh, and nothing that comes before the trials refuses it
pub record IsTried (i : Intersection) (h : List Entry) (v moment : ℕ) (m : Message) (p : Params) : Type 0 where
  pub fresh : is_fresh_seq h v m.seq ≡ true
  pub asks : params_of m.body ≡ Some p
  pub runs : is_stopped h ≡ false
  pub own : own_refusal i (known_after i h v moment) m.body ≡ None
  pub passed : first_reason i (known_after i h v moment) p ≡ None

-- At s, a step of its window, the vehicle comes behind all that the others hold, ends before the horizon, and meets no
-- green: no lane is green in a step of its cells or at most the clearance before.
pub record WaitsForAll (i : Intersection) (h : List Entry) (v now : ℕ) (p : Params) (s : ℕ) : Type 0 where
  pub from : p.arrive ≤ s
  pub until : s ≤ p.latest
  pub behind : (c d : Cell) (x : Fresh) → IsIn c (trial_cells i p (trial_at p s)) → IsIn x (reservations i (fresh h) now) → (x.entry.caller == v) ≡ false → IsIn d (granted i x) → d.step < c.step
  pub near : (c : Cell) → IsIn c (trial_cells i p (trial_at p s)) → c.step < now + i.times.horizon
  pub dark : (c : Cell) (t : ℕ) → IsIn c (trial_cells i p (trial_at p s)) → c.step ≤ t + i.times.clearance → t ≤ c.step → green_at i (policy_at h) t ≡ 0

-- the answer to a request with one arrival that nothing before the trials refuses: the fast trial where it is made and
-- no cell of it is blocked, else the steady one where none of it is, else a refusal for the least that is
abbrev pub two_trials : Intersection → Known → Params → Reply
two_trials i k p =
    if is_fast_made p && is_none (first_blocked i k p (record { start = p.arrive; fast = true })) then confirmation i k p (record { start = p.arrive; fast = true })
    else refused_or i k p (first_blocked i k p (record { start = p.arrive; fast = false })) (confirmation i k p (record { start = p.arrive; fast = false }))
