-- Calls kept message by message.
use Rattle.std.proofs.Common.{◌≡◌, ℕ, ◌+◌, ◌<◌, Bool, true, false, ◌&&◌, ◌||◌, not, List, [], ◌∷◌, ◌++◌, length, Option, Some, None, arith, refl, sym, ◌∙◌, ap, get_or, set, replicate, inl, inr}
use Rattle.std.specs.Prelude.{◌==◌, if◌then◌else◌, nat_le, option_and_then, is_none}
use Rattle.std.specs.List.{list_any}
use Rattle.std.proofs.lemmas.Bool.{cases_eq, eqb-true, eq-eqb}
use Rattle.std.proofs.lemmas.List.{get_or-set_same, get_or-set_other, length-set, length-replicate, get_or-replicate}
use Rattle.aim_messages.specs.declared.entries.Act.TheVariants as act
use Rattle.aim_messages.specs.declared.entries.Entry.{Entry}
use Rattle.aim_messages.specs.declared.messages.Message.{Message}
use Rattle.aim_messages.specs.declared.messages.Params.{Params}
use Rattle.aim_geometry.specs.Bounded.{some_below}
use Rattle.aim_layout.specs.Intersection.{Intersection}
use Rattle.aim_rules.specs.Approach.{calling, calling_at, is_coming, others_come}
use Rattle.aim_rules.specs.Bad.{bad}
use Rattle.aim_rules.specs.History.{Fresh, fresh, is_fresh, params_of, last_of}
use Rattle.aim_rules.specs.Kept.{are_below, is_coming_by}
use Rattle.aim_rules.proofs.HistoryLaws.{fresh-one, fresh-none, last_of-snoc}
use Rattle.aim_rules.proofs.HistoryLemmas.{served}
use Rattle.aim_rules.proofs.LaneLaws.{others_come-each}
use Rattle.aim_rules.proofs.Lists.{some_below-same, some_below-apart}
use Rattle.aim_sessions.specs.Calls.{AreCalls, call_of, is_call_in}
use Rattle.aim_sessions.proofs.Lists.{list_any-below}

pub calls_none : (i : Intersection) (vehicles : ℕ) → AreCalls i (replicate vehicles None) []
calls_none i n v l = let m : v < n = omega (arith, length-replicate {A = Option (ℕ × ℕ)} n None) in get_or-replicate {A = Option (ℕ × ℕ)} n v None None m

pub calls_same : (i : Intersection) (calls : List (Option (ℕ × ℕ))) (h : List Entry) (e : Entry) → is_fresh h e ≡ false → AreCalls i calls (fresh h) → AreCalls i calls (fresh (h ++ e ∷ []))
calls_same i calls h e old are = rw (fresh-none h e old) are

pub calls_more : (i : Intersection) (calls : List (Option (ℕ × ℕ))) (h : List Entry) (e : Entry) (m : Message) → AreCalls i calls (fresh h) → e.caller < length calls → is_fresh h e ≡ true → e.act ≡ act.Message m →
    AreCalls i (set calls e.caller (call_of i (calling i e.reply (params_of m.body)))) (fresh (h ++ e ∷ []))
calls_more i calls h e m are l new is v k = rw (fresh-one h e new) (go (e.caller == v) refl)
  where
    says : calling_at i (served h e) ≡ calling i e.reply (params_of m.body)
    says = rw is refl

    last : (b : Bool) → (e.caller == v) ≡ b → last_of (fresh h ++ served h e ∷ []) v ≡ (if b then Some (served h e) else last_of (fresh h) v)
    last b c = last_of-snoc (fresh h) (served h e) v ∙ rw c refl

    go : (b : Bool) → (e.caller == v) ≡ b → get_or (set calls e.caller (call_of i (calling i e.reply (params_of m.body)))) v None ≡ call_of i (option_and_then (calling_at i) (last_of (fresh h ++ served h e ∷ []) v))
    go true c =
        let s : e.caller ≡ v = eqb-true e.caller v c in
        ap (λ k. get_or (set calls e.caller (call_of i (calling i e.reply (params_of m.body)))) k None) (sym s) ∙ get_or-set_same calls e.caller (call_of i (calling i e.reply (params_of m.body))) None l
        ∙ ap (call_of i) (sym says) ∙ ap (λ o. call_of i (option_and_then (calling_at i) o)) (sym (last true c))
    go false c =
        get_or-set_other calls e.caller v (call_of i (calling i e.reply (params_of m.body))) None (λ s. let t : (e.caller == v) ≡ true = eq-eqb e.caller v (sym s) in cc)
        ∙ are v (let n = length-set calls e.caller (call_of i (calling i e.reply (params_of m.body))) in omega arith) ∙ ap (λ o. call_of i (option_and_then (calling_at i) o)) (sym (last false c))

-- a call is of a lane and not past where an emergency comes in the lane
call_coming : (i : Intersection) (now lane : ℕ) (o : Option Params) → is_call_in now i.times.horizon lane (call_of i o) ≡ is_coming i now lane o
call_coming i now lane None = refl
call_coming i now lane (Some p) = go p.emergency (is_none (bad i p)) (p.lane == lane) (nat_le now (p.arrive + i.times.horizon)) refl refl
  where
    go : (a b c d : Bool) → (p.lane == lane) ≡ c → nat_le now (p.arrive + i.times.horizon) ≡ d → is_call_in now i.times.horizon lane (if a && b then Some (p.lane, p.arrive) else None) ≡ (a && c && d && b)
    go true true true true e f = rw (e, f) refl
    go true true true false e f = rw (e, f) refl
    go true true false d e f = rw e refl
    go true false true true e f = refl
    go true false true false e f = refl
    go true false false d e f = refl
    go false b c d e f = refl

pub lanes_approached : (i : Intersection) (calls : List (Option (ℕ × ℕ))) (xs : List Fresh) (v : ℕ) (p : Params) (now lane : ℕ) → AreCalls i calls xs → are_below (length calls) xs ≡ true → v < length calls →
    list_any (is_call_in now i.times.horizon lane) (set calls v (call_of i (Some p))) ≡ (is_coming i now lane (Some p) || others_come i xs v now lane)
lanes_approached i calls xs v p now lane are below l =
    list_any-below noted test
    ∙ ap (λ n. some_below n at) (length-set calls v (call_of i (Some p)))
    ∙ some_below-apart (length calls) v at l
    ∙ ap (λ b. b || some_below (length calls) (λ w. not (w == v) && at w)) (ap test (get_or-set_same calls v (call_of i (Some p)) None l) ∙ call_coming i now lane (Some p))
    ∙ ap (λ b. is_coming i now lane (Some p) || b) (some_below-same (length calls) (λ w. not (w == v) && at w) (λ w. not (w == v) && is_coming_by i now lane (last_of xs w)) others
    ∙ sym (others_come-each i (length calls) xs v now lane below))
  where
    noted : List (Option (ℕ × ℕ))
    noted = set calls v (call_of i (Some p))

    test : Option (ℕ × ℕ) → Bool
    test o = is_call_in now i.times.horizon lane o

    at : ℕ → Bool
    at w = is_call_in now i.times.horizon lane (get_or (set calls v (call_of i (Some p))) w None)

    others : (w : ℕ) → w < length calls → (not (w == v) && at w) ≡ (not (w == v) && is_coming_by i now lane (last_of xs w))
    others w m = elim (cases_eq w v) [
      | inl e ↦ (let s : (w == v) ≡ true = eq-eqb w v e in rw s refl)
      | inr n ↦ ap (λ b. not (w == v) && b) (ap (λ o. is_call_in now i.times.horizon lane o) (get_or-set_other calls v w (call_of i (Some p)) None n ∙ are w m) ∙ call_coming i now lane (option_and_then (calling_at i) (last_of xs w)))
    ]
