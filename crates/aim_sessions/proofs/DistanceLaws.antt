-- Distances kept message by message.
use Rattle.std.proofs.Common.{◌≡◌, ℕ, ◌<◌, Bool, true, false, List, [], ◌∷◌, ◌++◌, length, Option, Some, None, arith, refl, sym, ◌∙◌, ap, get_or, set, replicate, inl, inr}
use Rattle.std.specs.Prelude.{◌==◌, if◌then◌else◌}
use Rattle.std.proofs.lemmas.Bool.{cases_eq, eq-eqb, eqb-true, ne_eqb}
use Rattle.std.proofs.lemmas.List.{get_or-set_same, get_or-set_other, get_or-replicate}
use Rattle.aim_messages.specs.declared.messages.Params.{Params}
use Rattle.aim_messages.specs.declared.replies.Reply.{Reply}
use Rattle.aim_messages.specs.declared.entries.Entry.{Entry}
use Rattle.aim_geometry.specs.Bounded.{min_with}
use Rattle.aim_rules.specs.History.{Fresh, fresh, is_fresh, is_confirm, params_at}
use Rattle.aim_rules.specs.Distance.{asked_from, is_blocked_reply}
use Rattle.aim_rules.specs.Kept.{distance_next}
use Rattle.aim_rules.proofs.HistoryLaws.{fresh-one, fresh-none}
use Rattle.aim_rules.proofs.HistoryLemmas.{served}
use Rattle.aim_rules.proofs.LaneLaws.{reservation_distance-snoc}
use Rattle.aim_sessions.specs.Distances.{AreDistances, distances_next, distances_with}

pub distances_none : AreDistances (replicate 16 None) []
distances_none lane l = get_or-replicate 16 lane None None l

-- one lane's distance is set
lane_set : (ds : List (Option ℕ)) (lane k : ℕ) (new : Option ℕ) → length ds ≡ 16 → lane < 16 → get_or (set ds k new) lane None ≡ (if k == lane then new else get_or ds lane None)
lane_set ds lane k new long l = elim (cases_eq lane k) [
  | inl e ↦ (let there : k < length ds = omega arith in rw (e, get_or-set_same ds k new None there, eq-eqb k k refl) refl)
  | inr n ↦ rw (get_or-set_other ds k lane new None n, ne_eqb k lane (λ e. n (sym e))) refl
]

if_same : (b : Bool) (o : Option ℕ) → o ≡ (if b then o else o)
if_same true o = refl
if_same false o = refl

-- the kept distance of a lane goes on as the lane's does
pub lane_next : (ds : List (Option ℕ)) (lane now : ℕ) (reply : Reply) (o : Option Params) → length ds ≡ 16 → lane < 16 → get_or (distances_with ds now reply o) lane None ≡ distance_next (get_or ds lane None) lane now reply o
lane_next ds lane now reply None long l = refl
lane_next ds lane now reply (Some p) long l = go (is_confirm reply) (is_blocked_reply reply)
  where
    at : (b : Bool) → (p.lane == lane) ≡ b → (if b then Some (min_with (asked_from now p) (get_or ds p.lane None)) else get_or ds lane None) ≡ (if b then Some (min_with (asked_from now p) (get_or ds lane None)) else get_or ds lane None)
    at true e = let s : p.lane ≡ lane = eqb-true p.lane lane e in ap (λ k. Some (min_with (asked_from now p) (get_or ds k None))) s
    at false e = refl

    go : (c b : Bool) → get_or (if c then set ds p.lane None else if b then set ds p.lane (Some (min_with (asked_from now p) (get_or ds p.lane None))) else ds) lane None
        ≡ (if p.lane == lane then (if c then None else if b then Some (min_with (asked_from now p) (get_or ds lane None)) else get_or ds lane None) else get_or ds lane None)
    go true b = lane_set ds lane p.lane None long l
    go false true = lane_set ds lane p.lane (Some (min_with (asked_from now p) (get_or ds p.lane None))) long l ∙ at (p.lane == lane) refl
    go false false = if_same (p.lane == lane) (get_or ds lane None)

pub distances_more : (ds : List (Option ℕ)) (xs : List Fresh) (x : Fresh) → length ds ≡ 16 → AreDistances ds xs → AreDistances (distances_next ds x) (xs ++ x ∷ [])
distances_more ds xs x long are lane l =
    lane_next ds lane x.now x.entry.reply (params_at x) long l ∙ ap (λ o. distance_next o lane x.now x.entry.reply (params_at x)) (are lane l) ∙ sym (reservation_distance-snoc xs x lane)

pub distances_entry : (ds : List (Option ℕ)) (h : List Entry) (e : Entry) → length ds ≡ 16 → is_fresh h e ≡ true → AreDistances ds (fresh h) → AreDistances (distances_next ds (served h e)) (fresh (h ++ e ∷ []))
distances_entry ds h e long new are = rw (fresh-one h e new) (distances_more ds (fresh h) (served h e) long are)

pub distances_same : (ds : List (Option ℕ)) (h : List Entry) (e : Entry) → is_fresh h e ≡ false → AreDistances ds (fresh h) → AreDistances ds (fresh (h ++ e ∷ []))
distances_same ds h e old are = rw (fresh-none h e old) are
