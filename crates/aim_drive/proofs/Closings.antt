-- The journal that a drive leaves.
use Prim.Native.Nat.{zero, suc}
use Rattle.std.proofs.Common.{◌≡◌, ◌≢◌, ℕ, ◌+◌, ◌-◌, ◌*◌, ◌<◌, ◌≤◌, ◌⊎◌, inl, inr, List, [], ◌∷◌, ◌++◌, length, length-append, map, get_or, Option, Some, None, refl, sym, ap, ◌∙◌, subst, arith}
use Rattle.std.specs.Prelude.{All, Contains, IsSomeAnd, sum_by}
use Rattle.std.proofs.lemmas.Bool.{cases_lt, cases_eq}
use Rattle.std.proofs.lemmas.List.{get_or_append_left, get_or-append_right, get_or-map, get_or_push, length-map}
use Rattle.std.proofs.lemmas.List.Sorted.{Contains-permutation, IsPermutation-sym}
use Rattle.std.proofs.lemmas.List.Sums.{sum_by-le, sum_by-append}
use Rattle.aim_messages.specs.declared.entries.Entry.{Entry}
use Rattle.aim_driver.specs.declared.logs.LogItem.{LogItem}
use Rattle.aim_driver.specs.Follows.{Call}
use Rattle.aim_driver.specs.Fits.{call_of}
use Rattle.aim_driver.proofs.CountLemmas.{follows_few}
use Rattle.aim_turnstile.specs.Models.{HasPass}
use Rattle.aim_turnstile.specs.History.{entries_of}
use Rattle.aim_agents.specs.BookSetting.{BookSetting}
use Rattle.aim_agents.specs.Seen.{caller_of, callers}
use Rattle.aim_agents.specs.declared.agents.Trouble.{Trouble}
use Rattle.aim_agents.specs.declared.agents.Trouble.TheVariants as trouble
use Rattle.aim_agents.specs.Agents.{AgentModel, AgentPass, IsFull}
use Rattle.aim_agents.specs.Followed.{IsNew}
use Rattle.aim_agents.specs.Went.{Carry, Went, replies}
use Rattle.aim_agents.proofs.Followed.{followed, stopped}
use Rattle.aim_agents.proofs.Passes.{length_begins}
use Rattle.aim_agents.proofs.Places.{none_later}
use Rattle.aim_agents.specs.Driven.{Closes}
use Rattle.aim_drive.specs.Closing.{IsClosed}
use Rattle.aim_drive.proofs.Lists.{element}
use Rattle.aim_drive.proofs.Seats.{pass_of}

-- a number is in the list, or it is not
seek : (ns : List ℕ) (n : ℕ) → Contains ns n ⊎ (Contains ns n → ⊥)
seek [] n = inr (λ c. let l : c.0 < length {A = ℕ} [] = c.1 in absurd (omega arith))
seek (x ∷ xs) n =
    elim (cases_eq x n) [
      | inl e ↦ inl (0, omega arith, e)
      | inr ne ↦
          elim (seek xs n) [
            | inl r ↦ inl (suc r.0, (let l : r.0 < length xs = r.1 in omega arith), r.2)
            | inr none ↦ inr (λ c. later x xs n ne none c.0 c.1 c.2)
          ]
    ]
  where
    later : (x : ℕ) (xs : List ℕ) (n : ℕ) → (x ≡ n → ⊥) → (Contains xs n → ⊥) → (k : ℕ) → k < length (x ∷ xs) → get_or (x ∷ xs) k n ≡ n → ⊥
    later x xs n ne none zero l e = ne e
    later x xs n ne none (suc k) l e = none (k, omega arith, e)

-- the number is an agent's
abbrev pub IsAgents : List AgentModel → ℕ → Type 0
IsAgents ys n = (j : ℕ) × (j < length ys) × ((d : AgentModel) → n ≡ (get_or ys j d).pass.number)

module _ (s : BookSetting) (rest : List AgentPass) (ys : List AgentModel) (op : AgentPass) (h : List Entry) where
  abbrev ps : List AgentPass
  ps = rest ++ map pass_of ys

  length_ps : length ps ≡ length rest + length ys
  length_ps = length-append rest (map pass_of ys) ∙ ap (λ n. length rest + n) (length-map ys pass_of)

  length_all : length (ps ++ op ∷ []) ≡ length rest + length ys + 1
  length_all = length-append ps (op ∷ []) ∙ ap (λ n. n + 1) length_ps

  at_rest : (k : ℕ) → k < length rest → get_or (ps ++ op ∷ []) k op ≡ get_or rest k op
  at_rest k l =
      let n : length ps ≡ length rest + length ys = length_ps in
      get_or_append_left ps (op ∷ []) op k (omega arith) ∙ get_or_append_left rest (map pass_of ys) op k l

  at_agent : (j k : ℕ) (d : AgentModel) → j ≡ length rest + k → k < length ys → get_or (ps ++ op ∷ []) j op ≡ (get_or ys k d).pass
  at_agent j k d e l =
      let n : length ps ≡ length rest + length ys = length_ps in
      let m : j - length rest ≡ k = omega arith in
      get_or_append_left ps (op ∷ []) op j (omega arith) ∙ get_or-append_right rest (map pass_of ys) (length rest) j op refl (omega arith)
      ∙ ap (λ i. get_or (map pass_of ys) i op) m ∙ get_or-map pass_of ys k d op l

  pub has_agents : IsClosed s ps op h → All (λ (a : AgentModel). HasPass caller_of h a.pass) ys
  has_agents closed k d l =
      let n : length (ps ++ op ∷ []) ≡ length rest + length ys + 1 = length_all in
      subst (λ (p : AgentPass). HasPass caller_of h p) (at_agent (length rest + k) k d refl l) (closed.passes (length rest + k) op (omega arith))

  pub has_operator : IsClosed s ps op h → HasPass caller_of h op
  has_operator closed =
      let n : length (ps ++ op ∷ []) ≡ length rest + length ys + 1 = length_all in
      let m : length ps ≡ length rest + length ys = length_ps in
      subst (λ (p : AgentPass). HasPass caller_of h p) (get_or_push ps op op (length ps) refl) (closed.passes (length ps) op (omega arith))

  -- a number has no entry, or it is an agent's, or the operator's
  pub whose : IsClosed s ps op h → All (λ (p : AgentPass). p.mine ≡ []) rest → (n : ℕ) → (entries_of caller_of n h ≡ []) ⊎ (IsAgents ys n ⊎ (n ≡ op.number))
  whose closed idle n =
      elim (seek (callers s.vehicles) n) [
        | inr none ↦ inl (closed.others n none)
        | inl c ↦ (
            let r = Contains-permutation (callers s.vehicles) (map (λ (p : AgentPass). p.number) (ps ++ op ∷ [])) n
            (IsPermutation-sym (map (λ (p : AgentPass). p.number) (ps ++ op ∷ [])) (callers s.vehicles) closed.numbers) c in
            place r.0 r.1 r.2)
      ]
    where
      place : (j : ℕ) → j < length (map (λ (p : AgentPass). p.number) (ps ++ op ∷ [])) → get_or (map (λ (p : AgentPass). p.number) (ps ++ op ∷ [])) j n ≡ n
          → (entries_of caller_of n h ≡ []) ⊎ (IsAgents ys n ⊎ (n ≡ op.number))
      place j l e =
          let a : length (map (λ (p : AgentPass). p.number) (ps ++ op ∷ [])) ≡ length (ps ++ op ∷ []) = length-map (ps ++ op ∷ []) (λ (p : AgentPass). p.number) in
          let b : length (ps ++ op ∷ []) ≡ length rest + length ys + 1 = length_all in
          let u : length ps ≡ length rest + length ys = length_ps in
          let lt : j < length (ps ++ op ∷ []) = omega arith in
          let is : (get_or (ps ++ op ∷ []) j op).number ≡ n = sym (get_or-map (λ (p : AgentPass). p.number) (ps ++ op ∷ []) j op n lt) ∙ e in
          elim (cases_lt j (length rest)) [
            | inl first ↦ (
                let has : entries_of caller_of (get_or (ps ++ op ∷ []) j op).number h ≡ (get_or (ps ++ op ∷ []) j op).mine = (closed.passes j op lt).1 in
                inl (ap (λ i. entries_of caller_of i h) (sym is) ∙ has ∙ ap (λ (p : AgentPass). p.mine) (at_rest j first) ∙ idle j op first))
            | inr past ↦
                elim (cases_lt (j - length rest) (length ys)) [
                  | inl mid ↦ inr (inl (j - length rest, mid, λ d. sym is ∙ ap (λ (p : AgentPass). p.number) (at_agent j (j - length rest) d (omega arith) mid)))
                  | inr last ↦ inr (inr (sym is ∙ ap (λ (p : AgentPass). p.number) (get_or_push ps op op j (omega arith))))
                ]
          ]

  pub closes : IsClosed s ps op h → All (λ (p : AgentPass). p.mine ≡ []) rest → Closes op ys h
  closes closed idle = record {
    operator = has_operator closed;
    agents = has_agents closed;
    known = λ i e at.
        elim (whose closed idle e.caller) [
          | inl none ↦ absurd (none_later e.caller [] h [] (h, refl) none refl i e at (omega arith) refl)
          | inr some ↦ elim some [ inl a ↦ inr a | inr o ↦ inl o ]
        ];
  }

  -- each pass has few entries, and so has the journal
  pub short : IsClosed s ps op h → All (λ (p : AgentPass). p.mine ≡ []) rest → All (λ (a : AgentModel). length a.pass.mine ≤ 128) ys → length h ≤ (length rest + length ys) * 128 + length op.mine
  short closed idle few =
      let f : AgentPass → ℕ = λ p. length p.mine in
      let c : length h ≡ sum_by (λ (p : AgentPass). length p.mine) ps + sum_by (λ (p : AgentPass). length p.mine) (op ∷ []) = closed.count ∙ sum_by-append (λ (p : AgentPass). length p.mine) ps (op ∷ []) in
      let b : sum_by (λ (p : AgentPass). length p.mine) ps ≤ length ps * 128 = sum_by-le (λ (p : AgentPass). length p.mine) 128 ps each in
      let n : length ps ≡ length rest + length ys = length_ps in
      let z : length ps * 128 ≡ (length rest + length ys) * 128 = ap (λ i. i * 128) n in
      let o : sum_by (λ (p : AgentPass). length p.mine) (op ∷ []) ≡ length op.mine = omega arith in
      omega arith
    where
      each : All (λ (p : AgentPass). length p.mine ≤ 128) ps
      each k d l =
          let n : length ps ≡ length rest + length ys = length_ps in
          elim (cases_lt k (length rest)) [
            | inl lt ↦ (
                let e : length (get_or ps k d).mine ≡ 0 = ap (λ (p : AgentPass). length p.mine) (get_or_append_left rest (map pass_of ys) d k lt) ∙ ap (λ (es : List Entry). length es) (idle k d lt) in
                omega arith)
            | inr ge ↦ agent k d (k - length rest) (omega arith) (omega arith)
          ]
        where
          agent : (k : ℕ) (d : AgentPass) (j : ℕ) → k ≡ length rest + j → j < length ys → length (get_or ps k d).mine ≤ 128
          agent k d j e l =
              let a = element ys j l in
              let m : k - length rest ≡ j = omega arith in
              let is : get_or ps k d ≡ (get_or ys j a.0).pass =
              get_or-append_right rest (map pass_of ys) (length rest) k d refl (omega arith) ∙ ap (λ i. get_or (map pass_of ys) i d) m ∙ get_or-map pass_of ys j a.0 d l in
              subst (λ (p : AgentPass). length p.mine ≤ 128) (sym is) (few j a.0 l)

length_carry : (es : List Entry) (calls : List Call) → Carry es calls → length es ≡ length calls
length_carry es calls c = sym (length-map es call_of) ∙ ap (λ (l : List (Option Call)). length l) c ∙ length-map calls (λ (x : Call). Some x)

-- a new agent with memory makes few calls
pub few_calls : (s : BookSetting) (first last : ℕ) (a b : AgentModel) → IsNew a → Went s first last a b → b.trouble ≢ Some trouble.NoMemory → length b.pass.mine ≤ 128
few_calls s first last a b new went memory = go b.trouble refl
  where
    go : (t : Option Trouble) → b.trouble ≡ t → length b.pass.mine ≤ 128
    go None e =
        let f = followed s first last a b new went e in
        let most : length f.calls ≤ 128 =
        subst (λ (r : List LogItem × List Call). length r.1 ≤ 128) f.follows (follows_few a.driver.plan a.up.fates a.down.fates first last (replies b.pass.mine)) in
        let same : length b.pass.mine ≡ length f.calls = length_carry b.pass.mine f.calls f.carried in
        omega arith
    go (Some trouble.NoMemory) e = absurd (memory e)
    go (Some trouble.Full) e =
        let f = stopped s first last a b new went e in
        let most : length (f.calls ++ f.extra ∷ []) ≤ 128 =
        subst (λ (r : List LogItem × List Call). length r.1 ≤ 128) f.follows (follows_few a.driver.plan a.up.fates a.down.fates first last (replies b.pass.mine)) in
        let more : length (f.calls ++ f.extra ∷ []) ≡ length f.calls + 1 = length-append f.calls (f.extra ∷ []) in
        let same : length b.pass.mine ≡ length f.calls = length_carry b.pass.mine f.calls f.carried in
        omega arith

-- where the journal has room left, an agent with memory has no trouble
pub is_calm : (s : BookSetting) (h : List Entry) (b : AgentModel) → HasPass caller_of h b.pass → b.pass.setting ≡ Some s → length h < s.room → b.trouble ≢ Some trouble.NoMemory → (b.trouble ≡ Some trouble.Full → IsFull b.pass) → b.trouble ≡ None
is_calm s h b has own room memory full = go b.trouble refl
  where
    go : (t : Option Trouble) → b.trouble ≡ t → b.trouble ≡ None
    go None e = e
    go (Some trouble.NoMemory) e = absurd (memory e)
    go (Some trouble.Full) e =
        let f : length b.pass.seen ≡ s.room = subst (λ (o : Option BookSetting). IsSomeAnd o (λ s. length b.pass.seen ≡ s.room)) own (full e) in
        let l : length b.pass.seen ≤ length h = length_begins b.pass.seen h has.0 in
        absurd (omega arith)
