-- How many spans a message has looked at, lets go of and takes.
use Rattle.std.specs.Prelude.{ℕ, ◌+◌, ◌-◌, ◌*◌, ◌==◌, Bool, true, false, List, Option, Some, None, is_none, min, if◌then◌else◌}
use Rattle.aim_messages.specs.declared.entries.Entry.{Entry}
use Rattle.aim_messages.specs.declared.messages.Params.{Params}
use Rattle.aim_layout.specs.Intersection.{Intersection}
use Rattle.aim_rules.specs.Bad.{bad, span_count}
use Rattle.aim_rules.specs.Trials.{has_windows, is_fast_made, judged}
use Rattle.aim_rules.specs.History.{Fresh, fresh, params_at}
use Rattle.aim_rules.specs.Holds.{is_fast}
use Rattle.aim_rules.specs.Kept.{kept}

abbrev pub trial_spans : Intersection → Bool → Option Params → ℕ
trial_spans i fast None = 0
trial_spans i fast (Some p) = span_count i p fast

-- how many starts of a message with these params are tried at most: those of its window that lie no further apart than
-- the horizon, or else the only one
abbrev pub starts_tried : Intersection → Option Params → ℕ
starts_tried i None = 0
starts_tried i (Some p) = if has_windows i then min (p.latest - p.arrive) i.times.horizon + 1 else 1

-- the spans of both trials of a message that asks with these params, at each start that may be tried: none where a field
-- is wrong, none of a fast trial that isn't made, and none of a steady one where the fast one judges the request
abbrev pub asked_spans : Intersection → Option Params → ℕ
asked_spans i None = 0
asked_spans i (Some p) =
    if is_none (bad i p) then starts_tried i (Some p) * ((if (judged i p).fast then 0 else span_count i p false) + (if is_fast_made p then span_count i p true else 0)) else 0

-- the spans of the granted trial: one for each pair of a step and a row in which it needs a cell
abbrev pub granted_spans : Intersection → Fresh → ℕ
granted_spans i x = trial_spans i (is_fast x.entry.reply) (params_at x)

-- what is let go of and taken where one reservation, if any, is kept in the place of another one: nothing where it is the same
abbrev pub exchanged : Intersection → Option Fresh → Option Fresh → ℕ
exchanged i None None = 0
exchanged i None (Some y) = granted_spans i y
exchanged i (Some x) None = granted_spans i x
exchanged i (Some x) (Some y) = if x.place == y.place then 0 else granted_spans i x + granted_spans i y

-- the spans that a vehicle lets go of and takes between two histories
abbrev pub spans_exchanged : Intersection → ℕ → List Entry → List Entry → ℕ
spans_exchanged i v before after = exchanged i (kept (fresh before) v) (kept (fresh after) v)
