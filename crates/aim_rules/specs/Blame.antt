-- What a refusal for a cell blames.
use Rattle.std.specs.Prelude.{◌≡◌, ℕ, ◌<◌, ◌≤◌, true, List, [], ◌∷◌, ◌++◌, length, Option, Some, None, option_and_then}
use Rattle.aim_messages.specs.declared.entries.Act.TheVariants as act
use Rattle.aim_messages.specs.declared.entries.Entry.{Entry}
use Rattle.aim_messages.specs.declared.messages.Message.{Message}
use Rattle.aim_messages.specs.declared.messages.Params.{Params}
use Rattle.aim_messages.specs.declared.replies.Reason.{Reason}
use Rattle.aim_messages.specs.declared.replies.Reason.TheVariants as reason
use Rattle.aim_messages.specs.declared.replies.Reply.TheVariants as reply
use Rattle.aim_geometry.specs.Cells.{Cell, cell_at}
use Rattle.aim_layout.specs.Intersection.{Intersection}
use Rattle.aim_rules.specs.Cells.{IsIn}
use Rattle.aim_rules.specs.Claims.{is_claimed}
use Rattle.aim_rules.specs.History.{Fresh, fresh, given_up, is_fresh, is_fresh_seq, message_of, now_of, params_of}
use Rattle.aim_rules.specs.Holds.{is_granted, reservations}
use Rattle.aim_rules.specs.Legal.{IsLegal}

-- the cell for which a reason refuses, if it does for one
abbrev pub cell_blamed : Reason → Option Cell
cell_blamed (reason.Green row col step lane) = Some (cell_at step row col)
cell_blamed (reason.Taken row col step by) = Some (cell_at step row col)
cell_blamed _ = None

-- the vehicle `by` isn't v, and x is its reservation, which has the cell
pub record IsHeldBy (i : Intersection) (h : List Entry) (now v by : ℕ) (c : Cell) (x : Fresh) : Type 0 where
  pub other : by ≡ v → ⊥
  pub held : IsIn x (reservations i (fresh h) now)
  pub own : x.entry.caller ≡ by
  pub cell : is_granted i x c ≡ true

-- the lane `by` isn't that one, and claims the cell by its green
pub record IsClaimedBy (i : Intersection) (h : List Entry) (lane by : ℕ) (c : Cell) : Type 0 where
  pub other : by ≡ lane → ⊥
  pub there : by < length i.lanes
  pub claimed : is_claimed i h by c ≡ true

-- After a history a request was refused for a cell, and the vehicle `by`, whose reservation had it, gave that up.
pub record Yielded : Type 0 where
  pub history : List Entry
  pub refused : Entry
  pub message : Message
  pub params : Params
  pub cell : Cell
  pub by : ℕ
  pub reservation : Fresh
  pub gone : Entry

pub record IsYielded (i : Intersection) (n : ℕ) (y : Yielded) : Type 0 where
  pub early : i.times.early ≤ i.times.edge
  pub late : i.times.late ≤ i.times.edge
  pub legal : IsLegal i n (y.history ++ y.refused ∷ y.gone ∷ [])
  pub message : y.refused.act ≡ act.Message y.message
  pub asks : params_of y.message.body ≡ Some y.params
  pub fresh : is_fresh_seq y.history y.refused.caller y.message.seq ≡ true
  pub reply : (next : ℕ) × (held : Option ℕ) × (y.refused.reply ≡ reply.Reject (reason.Taken y.cell.row y.cell.col y.cell.step y.by) next held)
  pub holder : IsHeldBy i y.history (now_of y.history y.refused.moment) y.refused.caller y.by y.cell y.reservation
  pub gone : is_fresh (y.history ++ y.refused ∷ []) y.gone ≡ true
  pub gone_by : y.gone.caller ≡ y.by
  pub gone_with : option_and_then (λ m. given_up m.body) (message_of y.gone.act) ≡ Some y.reservation.place
