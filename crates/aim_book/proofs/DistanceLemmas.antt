-- What an answer makes of the distances of lanes.
use Rattle.std.proofs.Common.{◌≡◌, ℕ, ◌≤◌, Bool, true, false, List, length, Option, Some, None, refl, arith, sym, set, get_or}
use Rattle.std.specs.Prelude.{if◌then◌else◌}
use Rattle.std.proofs.lemmas.List.{set_past}
use Rattle.aim_messages.specs.declared.messages.Params.{Params}
use Rattle.aim_messages.specs.declared.replies.Reply.{Reply}
use Rattle.aim_geometry.specs.Bounded.{min_with}
use Rattle.aim_sessions.specs.Distances.{distances_with}
use Rattle.aim_rules.specs.Distance.{asked_from, is_blocked_reply}
use Rattle.aim_rules.specs.History.{is_confirm}

pub distances_past : (ds : List (Option ℕ)) (now : ℕ) (r : Reply) (p : Params) → length ds ≡ 16 → 16 ≤ p.lane → ds ≡ distances_with ds now r (Some p)
distances_past ds now r p many past = go (is_confirm r) (is_blocked_reply r)
  where
    go : (a b : Bool) → ds ≡ (if a then set ds p.lane None else if b then set ds p.lane (Some (min_with (asked_from now p) (get_or ds p.lane None))) else ds)
    go true b = sym (set_past ds p.lane None (omega arith))
    go false true = sym (set_past ds p.lane (Some (min_with (asked_from now p) (get_or ds p.lane None))) (omega arith))
    go false false = refl
