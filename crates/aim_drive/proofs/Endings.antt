-- What is known when all turns are over.
use Rattle.std.proofs.Common.{◌≡◌, ℕ, ◌+◌, ◌*◌, ◌<◌, ◌≤◌, List, [], ◌++◌, length, length-append, map, take, drop, get_or, None, Result, Ok, Err, sym, ap, ◌∙◌, subst, arith}
use Rattle.std.specs.Prelude.{All, OnOk, OnErr}
use Rattle.std.proofs.lemmas.List.{length-map, append-nil, drop_all, take_all}
use Rattle.std.proofs.lemmas.List.Elements.{All-map, All-append}
use Rattle.std.proofs.lemmas.List.Sorted.{length_permutation}
use Rattle.aim_messages.specs.declared.entries.Entry.{Entry}
use Rattle.aim_agents.specs.Full.{Full}
use Rattle.aim_turnstile.specs.Models.{TurnstileModel}
use Rattle.aim_agents.specs.BookSetting.{BookSetting}
use Rattle.aim_drive_script.specs.declared.scripts.Planned.{Planned}
use Rattle.aim_agents.specs.Agents.{AgentModel, AgentPass}
use Rattle.aim_agents.proofs.Passes.{length_begins}
use Rattle.aim_agents.specs.Rounds.{run_size}
use Rattle.aim_agents.specs.Driven.{Driven}
use Rattle.aim_agents.specs.Orders.{FoundFull}
use Rattle.aim_drive.specs.Closing.{HasMemory, IsClosed}
use Rattle.aim_drive.specs.Making.{AreAgentsFor, AreLeft, all_passes}
use Rattle.aim_drive.proofs.Lists.{element}
use Rattle.aim_drive.proofs.Seats.{pass_of, left_new, count_all}
use Rattle.aim_drive.proofs.Closings.{has_agents, has_operator, short, few_calls, is_calm}

-- the agents took their turns of all steps below one
pub record Rode (s : BookSetting) (size : ℕ) (xs ys : List AgentModel) : Type 0 where
  pub step : ℕ
  pub before : AgentPass
  pub driven : Driven s step size before xs ys

rode : (s : BookSetting) (until size : ℕ) (op : AgentPass) (xs ys : List AgentModel) (orders : ℕ) (r : Result (Unit {0}) Full) → OnOk r (Driven s until size op xs ys) → OnErr r (FoundFull s until size op xs ys orders) → Rode s size xs ys
rode s until size op xs ys orders (Ok u) d f = record { step = until; before = op; driven = d }
rode s until size op xs ys orders (Err e) d f = record { step = f.step; before = f.before; driven = f.driven }

-- the same, of what was lent
ridden : (s : BookSetting) (until workers : ℕ) (op : AgentPass) (xs l ys : List AgentModel) (orders : ℕ) (r : Result (Unit {0}) Full) → l ≡ xs → OnOk r (Driven s until (run_size (length l) workers) op l ys)
    → OnErr r (FoundFull s until (run_size (length l) workers) op l ys orders) → Rode s (run_size (length xs) workers) xs ys
ridden s until workers op xs l ys orders r e d f = subst (λ (z : List AgentModel). Rode s (run_size (length z) workers) z ys) e (rode s until (run_size (length l) workers) op l ys orders r d f)

pub lent_full : (s : BookSetting) (until workers : ℕ) (op : AgentPass) (xs l ys : List AgentModel) (n k : ℕ) → l ≡ xs → n ≡ k → FoundFull s until (run_size (length l) workers) op l ys n → FoundFull s until (run_size (length xs) workers) op xs ys k
lent_full s until workers op xs l ys n k e en f =
    subst (λ (z : List AgentModel). FoundFull s until (run_size (length z) workers) op z ys k) e (subst (λ (i : ℕ). FoundFull s until (run_size (length l) workers) op l ys i) en f)

pub lent_driven : (s : BookSetting) (until workers : ℕ) (op : AgentPass) (xs l ys : List AgentModel) → l ≡ xs → Driven s until (run_size (length l) workers) op l ys → Driven s until (run_size (length xs) workers) op xs ys
lent_driven s until workers op xs l ys e d = subst (λ (z : List AgentModel). Driven s until (run_size (length z) workers) op z ys) e d

-- a list that was lent whole, and came back
pub lent_back : {A : Type 0} (n : ℕ) (ys xs : List A) → length ys ≡ n → length xs ≤ length ys → take n (ys ++ drop (length ys) xs) ≡ ys
lent_back n ys xs len le =
    ap (λ l. take n (ys ++ l)) (drop_all (length ys) xs le) ∙ ap (λ l. take n l) (append-nil ys) ∙ take_all n ys (omega (arith, len))

-- the agents rode, and came back as t
pub record CameBack (s : BookSetting) (size : ℕ) (xs ys t : List AgentModel) : Type 0 where
  pub ride : Rode s size xs ys
  pub back : t ≡ ys

pub came_back : (s : BookSetting) (until workers n : ℕ) (op : AgentPass) (xs l ys : List AgentModel) (orders : ℕ) (r : Result (Unit {0}) Full) → l ≡ xs → length l ≡ n
    → OnOk r (Driven s until (run_size (length l) workers) op l ys) → OnErr r (FoundFull s until (run_size (length l) workers) op l ys orders)
    → CameBack s (run_size (length xs) workers) xs ys (take n (ys ++ drop (length ys) xs))
came_back s until workers n op xs l ys orders r e many d f =
    let ride = ridden s until workers op xs l ys orders r e d f in
    let same : length ys ≡ length xs = ride.driven.len in
    let all : length xs ≡ n = ap (λ (z : List AgentModel). length z) (sym e) ∙ many in
    record { ride = ride; back = lent_back n ys xs (same ∙ all) (omega arith) }

module _ (m : TurnstileModel BookSetting) (spans size : ℕ) (plans : List Planned) (xs ys : List AgentModel) (rest : List AgentPass) (made : AreAgentsFor m spans plans xs) (left : AreLeft m xs rest) (ride : Rode m.setting size xs ys) where
  pub left_idle : All (λ (p : AgentPass). p.mine ≡ []) rest
  left_idle k d l = ap (λ (p : AgentPass). p.mine) (left_new m xs rest left k d l)

  pub all_own : All (λ (p : AgentPass). p.table ≡ m.table) (rest ++ map pass_of ys)
  all_own = All-append (λ (p : AgentPass). p.table ≡ m.table) rest (map pass_of ys) (λ k d l. ap (λ (p : AgentPass). p.table) (left_new m xs rest left k d l)) (All-map (λ (p : AgentPass). p.table ≡ m.table) pass_of ys agents)
    where
      agents : All (λ (a : AgentModel). a.pass.table ≡ m.table) ys
      agents k d l =
          let c : length ys ≡ length xs = ride.driven.len in
          let n : length xs ≡ length plans = made.count in
          let lt : k < length plans = omega arith in
          (ride.driven.each k d (omega arith)).went.goes.same.table ∙ ap (λ (p : AgentPass). p.table) (made.each k (element plans k lt).0 d lt).pass

  pub count_left : length rest + length ys ≡ m.setting.vehicles
  count_left =
      let c : length ys ≡ length xs = ride.driven.len in
      let a : length (map pass_of xs ++ rest) ≡ length (map pass_of xs) + length rest = length-append (map pass_of xs) rest in
      let b : length (map pass_of xs) ≡ length xs = length-map xs pass_of in
      let p : length (map pass_of xs ++ rest) ≡ length (all_passes m) = length_permutation (all_passes m) (map pass_of xs ++ rest) left in
      let n : length (all_passes m) ≡ m.setting.vehicles = count_all m in
      omega arith

  -- the journal is shorter than its room
  pub has_room : (op : AgentPass) (h : List Entry) (n : ℕ) → IsClosed m.setting (rest ++ map pass_of ys) op h → All HasMemory ys → length op.mine ≤ n → m.setting.room ≡ 128 * m.setting.vehicles + n + 1 → length h < m.setting.room
  has_room op h n closed memory most room =
      let s : length h ≤ (length rest + length ys) * 128 + length op.mine = short m.setting rest ys op h closed left_idle few in
      let c : (length rest + length ys) * 128 ≡ m.setting.vehicles * 128 = ap (λ i. i * 128) count_left in
      omega arith
    where
      few : All (λ (a : AgentModel). length a.pass.mine ≤ 128) ys
      few k d l =
          let c : length ys ≡ length xs = ride.driven.len in
          let n : length xs ≡ length plans = made.count in
          let lt : k < length plans = omega arith in
          few_calls m.setting 0 ride.step (get_or xs k d) (get_or ys k d) (made.each k (element plans k lt).0 d lt).new (ride.driven.each k d (omega arith)).went (memory k d l).0

  pub all_calm : (op : AgentPass) (h : List Entry) → IsClosed m.setting (rest ++ map pass_of ys) op h → All HasMemory ys → length h < m.setting.room → All (λ (a : AgentModel). a.trouble ≡ None) ys
  all_calm op h closed memory room k d l =
      let c : length ys ≡ length xs = ride.driven.len in
      let n : length xs ≡ length plans = made.count in
      let lt : k < length plans = omega arith in
      is_calm m.setting h (get_or ys k d) (has_agents m.setting rest ys op h closed k d l)
      ((ride.driven.each k d (omega arith)).went.goes.same.setting ∙ ap (λ (p : AgentPass). p.setting) (made.each k (element plans k lt).0 d lt).pass)
      room (memory k d l).0 (memory k d l).1

  -- no order found the journal full
  pub never_full : (until : ℕ) (op : AgentPass) (h : List Entry) (n : ℕ) → IsClosed m.setting (rest ++ map pass_of ys) op h → All HasMemory ys → m.setting.room ≡ 128 * m.setting.vehicles + n + 1 → FoundFull m.setting until size op xs ys n → ⊥
  never_full until op h n closed memory room f =
      let few : length op.mine < n = f.few in
      let s : length h < m.setting.room = has_room op h n closed memory (omega arith) room in
      let b : length op.seen ≤ length h = length_begins op.seen h (has_operator m.setting rest ys op h closed).0 in
      let full : length op.seen ≡ m.setting.room = f.full in
      omega arith
