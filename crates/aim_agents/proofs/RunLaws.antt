-- What the agents of one run do, agent by agent.
use Rattle.std.proofs.Common.{◌≡◌, ℕ, ◌+◌, ◌-◌, ◌*◌, ◌/◌, ◌%◌, ◌<◌, ◌≤◌, ◌⊎◌, inl, inr, List, length, take, drop, get_or, refl, sym, ap, ◌∙◌, subst, arith}
use Rattle.std.specs.Fork.{slice_chunk}
use Rattle.std.specs.Prelude.{All, min}
use Rattle.std.proofs.Math.ListN.{set}
use Rattle.std.proofs.Math.Nat.{mul_comm}
use Rattle.std.proofs.lemmas.Bool.{cases_eq}
use Rattle.std.proofs.lemmas.List.{length-set, get_or-set_same, get_or-set_other, get_or-take, get_or-drop, get_or_read, length-take, length-drop}
use Rattle.aim_messages.specs.declared.entries.Entry.{Entry}
use Rattle.aim_turnstile.specs.Models.{TurnstileModel, IsSamePass}
use Rattle.aim_turnstile.specs.History.{Begins}
use Rattle.aim_turnstile.proofs.Histories.{begins_trans}
use Rattle.aim_agents.specs.BookSetting.{BookSetting}
use Rattle.aim_agents.specs.Seen.{Meets}
use Rattle.aim_driver.specs.Models.{step_of}
use Rattle.aim_agents.specs.Agents.{AgentFront, AgentModel, AgentPass, IsAgentOf}
use Rattle.aim_agents.specs.Places.{IsCallSince, Before, Any}
use Rattle.aim_agents.specs.Went.{Went, Met}
use Rattle.aim_agents.proofs.Places.{at_lt, split_call}
use Rattle.aim_agents.proofs.Passes.{length_begins, sees_self, sees_met, sees_trans}
use Rattle.aim_agents.proofs.Courses.{went_then, went_begins, met_went, stays_went, no_calls}
use Rattle.aim_agents.proofs.Sheets.{agent_went}
use Rattle.aim_agents.specs.Runs.{Done, Followed, Behind, Running, Ran, RunsWent, Gathered}

module _ (s : BookSetting) where
  -- a call between a and c is one between a and b or one between b and c
  pub split_since : (first last : ℕ) (a b c : AgentModel) → Went s first last b c → (k : ℕ) (e : Entry) → IsCallSince a c k e → IsCallSince a b k e ⊎ IsCallSince b c k e
  split_since first last a b c w k e h = split_call b.pass c.pass (length a.pass.seen) (went_begins s first last b c w) w.goes.same.number k e h

  pub followed_met : (a b : AgentModel) (front : AgentFront) → Met s a front b → Followed s (length front.seen) a b
  followed_met a b front m = record { went = λ step. met_went s step a front b m; reach = length_begins front.seen b.pass.seen m.meets.shows }

  pub followed_none : (a : AgentModel) → Followed s 0 a a
  followed_none a = record { went = λ step. stays_went s step a; reach = omega arith }

  pub behind_is : (step shown : ℕ) (a m b : AgentModel) → Followed s shown a m → Went s step (step + 1) m b → Behind s step shown a b
  behind_is step shown a m b f t =
      let r : shown ≤ length m.pass.seen = f.reach in
      let l : length m.pass.seen ≤ length b.pass.seen = length_begins m.pass.seen b.pass.seen (went_begins s step (step + 1) m b t) in
      record {
        went = went_then s step step (step + 1) a m b (f.went step) t;
        past = λ k e c.
            elim (split_since step (step + 1) a m b t k e c) [
              | inl x ↦ absurd (no_calls s step a m (f.went step) k e x)
              | inr x ↦ (let n : length m.pass.seen ≤ k = x.later in omega arith)
            ];
        reach = omega arith;
      }

  pub done_none : (R : AgentModel → AgentModel → Type 0) (xs : List AgentModel) → Done R 0 xs xs
  done_none R xs = record { len = refl; each = λ k d lt. absurd (omega arith); others = λ k d le. refl }

  pub done_weaker : (R S : AgentModel → AgentModel → Type 0) → ((a b : AgentModel) → R a b → S a b) → (n : ℕ) (xs ys : List AgentModel) → Done R n xs ys → Done S n xs ys
  done_weaker R S f n xs ys p = record { len = p.len; each = λ k d lt. f (get_or xs k d) (get_or ys k d) (p.each k d lt); others = p.others }

  -- the element at n, which is as before
  pub item_is : (R : AgentModel → AgentModel → Type 0) (n : ℕ) (xs ys : List AgentModel) (a : AgentModel) → Done R n xs ys → n < length ys → a ≡ get_or ys n a → (d : AgentModel) → a ≡ get_or xs n d
  item_is R n xs ys a p lt is d = get_or_read ys n a lt is d ∙ p.others n d (omega arith)

  pub done_more : (R : AgentModel → AgentModel → Type 0) (n : ℕ) (xs ys : List AgentModel) (a v : AgentModel) → Done R n xs ys → n < length ys → a ≡ get_or ys n a → R a v → Done R (n + 1) xs (set ys n v)
  done_more R n xs ys a v p lt is r =
      record {
        len = length-set ys n v ∙ p.len;
        each = λ k d l.
            elim (cases_eq k n) [
              | inl e ↦
                  subst (λ m. R (get_or xs m d) (get_or (set ys n v) m d)) (sym e)
                  (subst (λ b. R (get_or xs n d) b) (sym (get_or-set_same ys n v d lt))
                  (subst (λ x. R x v) (item_is R n xs ys a p lt is d) r))
              | inr ne ↦ subst (λ b. R (get_or xs k d) b) (sym (get_or-set_other ys n k v d ne)) (p.each k d (omega arith))
            ];
        others = λ k d le. get_or-set_other ys n k v d (λ e. absurd (omega arith)) ∙ p.others k d (omega arith);
      }

  pub running_none : (step shown : ℕ) (xs : List AgentModel) → Running s step 0 shown xs xs
  running_none step shown xs = record { turns = done_none (λ a b. Went s step (step + 1) a b × (length b.pass.seen ≤ shown)) xs; order = λ j k d jk kn. absurd (omega arith) }

  pub running_more : (step n shown shown' : ℕ) (xs ys : List AgentModel) (a v : AgentModel) → Running s step n shown xs ys → n < length ys → a ≡ get_or ys n a → Behind s step shown a v → length v.pass.seen ≤ shown' → Running s step (n + 1) shown' xs (set ys n v)
  running_more step n shown shown' xs ys a v p lt is b reach =
      let r : shown ≤ length v.pass.seen = b.reach in
      record {
        turns = done_more (λ x y. Went s step (step + 1) x y × (length y.pass.seen ≤ shown')) n xs ys a v
            (done_weaker (λ x y. Went s step (step + 1) x y × (length y.pass.seen ≤ shown)) (λ x y. Went s step (step + 1) x y × (length y.pass.seen ≤ shown')) (λ x y h. (h.0, (let le : length y.pass.seen ≤ shown = h.1 in omega arith))) n xs ys p.turns)
            lt is (b.went, reach);
        order = λ j k d jk kn.
            elim (cases_eq k n) [
              | inl e ↦
                  subst (λ m. Before Any (get_or xs j d) (get_or (set ys n v) j d) (get_or xs m d) (get_or (set ys n v) m d)) (sym e)
                  (subst (λ y. Before Any (get_or xs j d) y (get_or xs n d) (get_or (set ys n v) n d)) (sym (get_or-set_other ys n j v d (λ same. absurd (omega arith))))
                  (subst (λ y. Before Any (get_or xs j d) (get_or ys j d) (get_or xs n d) y) (sym (get_or-set_same ys n v d lt))
                  (subst (λ x. Before Any (get_or xs j d) (get_or ys j d) x v) (item_is (λ x y. Went s step (step + 1) x y × (length y.pass.seen ≤ shown)) n xs ys a p.turns lt is d)
                  (λ s t x y cx cy _.
                  let l : s < length (get_or ys j d).pass.seen = at_lt (get_or ys j d).pass.seen s x cx.stands in
                  let m : length (get_or ys j d).pass.seen ≤ shown = (p.turns.each j d (omega arith)).1 in
                  let q : shown ≤ t = b.past t y cy in
                  omega arith))))
              | inr ne ↦
                  subst (λ y. Before Any (get_or xs j d) y (get_or xs k d) (get_or (set ys n v) k d)) (sym (get_or-set_other ys n j v d (λ same. absurd (omega arith))))
                  (subst (λ y. Before Any (get_or xs j d) (get_or ys j d) (get_or xs k d) y) (sym (get_or-set_other ys n k v d ne))
                  (p.order j k d jk (omega arith)))
            ];
      }

  pub ran_is : (step n shown : ℕ) (xs ys : List AgentModel) → length xs ≤ n → Running s step n shown xs ys → Ran s step xs ys
  ran_is step n shown xs ys le p = record { len = p.turns.len; each = λ k d l. (p.turns.each k d (omega arith)).0; order = λ j k d jk kl. p.order j k d jk (omega arith) }

  pub gathered_none : (p : AgentPass) (xs : List AgentModel) → Gathered 0 p p xs xs
  gathered_none p xs = record { sees = sees_self p; whole = λ w. w; same = done_none (λ a b. b ≡ a) xs; seen = λ k d l. absurd (omega arith) }

  pub gathered_more : (n : ℕ) (p q r : AgentPass) (xs ys : List AgentModel) (a v : AgentModel) (front : AgentFront) → Gathered n p q xs ys → n < length ys → a ≡ get_or ys n a → v ≡ a → front.seen ≡ a.pass.seen → IsSamePass q r → Meets s q front r → Gathered (n + 1) p r xs (set ys n v)
  gathered_more n p q r xs ys a v front g lt is same shows kept m =
      record {
        sees = sees_trans p q r g.sees (sees_met s q front r kept m);
        whole = λ _. m.whole;
        same = done_more (λ x y. y ≡ x) n xs ys a v g.same lt is same;
        seen = λ k d l.
            elim (cases_eq k n) [
              | inl e ↦
                  subst (λ i. Begins (get_or xs i d).pass.seen r.seen) (sym e)
                  (subst (λ x. Begins x.pass.seen r.seen) (item_is (λ x y. y ≡ x) n xs ys a g.same lt is d)
                  (subst (λ l. Begins l r.seen) shows m.shows))
              | inr ne ↦ begins_trans (get_or xs k d).pass.seen q.seen r.seen (g.seen k d (omega arith)) m.begins
            ];
      }

  -- all as one run
  pub whole_went : (step size : ℕ) (xs ys : List AgentModel) → Ran s step xs ys → RunsWent s step size xs ys
  whole_went step size xs ys r = record { len = r.len; each = r.each; order = λ j k d i l. r.order j k d i.order l }

  chunk_at : (xs : List AgentModel) (size n i : ℕ) (d : AgentModel) → i < size → get_or (slice_chunk xs size n) i d ≡ get_or xs (n * size + i) d
  chunk_at xs size n i d lt = get_or-take size (drop (n * size) xs) i d lt ∙ get_or-drop (n * size) xs i d

  chunk_length : (xs : List AgentModel) (size n i : ℕ) → i < size → n * size + i < length xs → i < length (slice_chunk xs size n)
  chunk_length xs size n i small lt =
      let p = n * size in
      let e = length-take size (drop p xs) in
      let f = length-drop p xs in
      chunk_room p size i (length xs) (length (take size (drop p xs))) (e ∙ ap (λ m. min size m) f) small lt
    where
      chunk_room : (p size i whole len : ℕ) → len ≡ min size (whole - p) → i < size → p + i < whole → i < len
      chunk_room p size i whole len is small lt = omega (arith, is)

  -- the runs of `size` neighbours, put together
  pub chunks_went : (step size : ℕ) (xs ys : List AgentModel) → 0 < size → length ys ≡ length xs → ((n : ℕ) → n * size < length xs → Ran s step (slice_chunk xs size n) (slice_chunk ys size n)) → RunsWent s step size xs ys
  chunks_went step size xs ys some len ran =
      record {
        len = len;
        each = λ k d l.
            let n = k / size in
            let i = k % size in
            let small : i < size = omega arith in
            let whole : size * n + i ≡ k = omega arith in
            let at : n * size + i ≡ k = ap (λ m. m + i) (mul_comm n size) ∙ whole in
            let low : n * size < length xs = below (n * size) i k (length xs) at l in
            subst (λ m. Went s step (step + 1) (get_or xs m d) (get_or ys m d)) at
            (subst (λ x. Went s step (step + 1) x (get_or ys (n * size + i) d)) (chunk_at xs size n i d small)
            (subst (λ y. Went s step (step + 1) (get_or (slice_chunk xs size n) i d) y) (chunk_at ys size n i d small)
            ((ran n low).each i d (chunk_length xs size n i small (subst (λ m. m < length xs) (sym at) l)))));
        order = λ j k d r l. in_chunk r.run j k d r.first r.order r.last l;
      }
    where
      below : (p i k whole : ℕ) → p + i ≡ k → k < whole → p < whole
      below p i k whole at l = omega (arith, at)

      in_chunk : (n j k : ℕ) (d : AgentModel) → n * size ≤ j → j < k → k < n * size + size → k < length xs → Before Any (get_or xs j d) (get_or ys j d) (get_or xs k d) (get_or ys k d)
      in_chunk n j k d first order last l =
          let p = n * size in
          let u = j - p in
          let v = k - p in
          let at_u : p + u ≡ j = back p j first in
          let at_v : p + v ≡ k = back p k (after p j k first order) in
          let small_u : u < size = within p u j k size at_u order last in
          let small_v : v < size = inside p v k size at_v last in
          let uv : u < v = apart p u v j k at_u at_v order in
          let low : p < length xs = below p v k (length xs) at_v l in
          subst (λ m. Before Any (get_or xs m d) (get_or ys m d) (get_or xs k d) (get_or ys k d)) at_u
          (subst (λ m. Before Any (get_or xs (p + u) d) (get_or ys (p + u) d) (get_or xs m d) (get_or ys m d)) at_v
          (subst (λ x. Before Any x (get_or ys (p + u) d) (get_or xs (p + v) d) (get_or ys (p + v) d)) (chunk_at xs size n u d small_u)
          (subst (λ y. Before Any (get_or (slice_chunk xs size n) u d) y (get_or xs (p + v) d) (get_or ys (p + v) d)) (chunk_at ys size n u d small_u)
          (subst (λ x. Before Any (get_or (slice_chunk xs size n) u d) (get_or (slice_chunk ys size n) u d) x (get_or ys (p + v) d)) (chunk_at xs size n v d small_v)
          (subst (λ y. Before Any (get_or (slice_chunk xs size n) u d) (get_or (slice_chunk ys size n) u d) (get_or (slice_chunk xs size n) v d) y) (chunk_at ys size n v d small_v)
          ((ran n low).order u v d uv (chunk_length xs size n v small_v (subst (λ m. m < length xs) (sym at_v) l))))))))
        where
          back : (p j : ℕ) → p ≤ j → p + (j - p) ≡ j
          back p j le = omega arith

          after : (p j k : ℕ) → p ≤ j → j < k → p ≤ k
          after p j k le lt = omega arith

          within : (p u j k size : ℕ) → p + u ≡ j → j < k → k < p + size → u < size
          within p u j k size at lt last = omega (arith, at)

          inside : (p v k size : ℕ) → p + v ≡ k → k < p + size → v < size
          inside p v k size at last = omega (arith, at)

          apart : (p u v j k : ℕ) → p + u ≡ j → p + v ≡ k → j < k → u < v
          apart p u v j k at_u at_v lt = omega (arith, at_u, at_v)

  -- the agent at hand is one of the manager
  pub item_own : (t : TurnstileModel BookSetting) (R : AgentModel → AgentModel → Type 0) (n : ℕ) (xs ys : List AgentModel) (a : AgentModel) → All (IsAgentOf t) xs → Done R n xs ys → n < length ys → a ≡ get_or ys n a → IsAgentOf t a
  item_own t R n xs ys a own p lt is =
      subst (λ x. IsAgentOf t x) (sym (item_is R n xs ys a p lt is a)) (own n a (subst (λ m. n < m) p.len lt))

  -- and has used no later step
  pub item_late : (R : AgentModel → AgentModel → Type 0) (step n : ℕ) (xs ys : List AgentModel) (a : AgentModel) → All (λ x. step_of x.driver.log ≤ step) xs → Done R n xs ys → n < length ys → a ≡ get_or ys n a → step_of a.driver.log ≤ step
  item_late R step n xs ys a late p lt is =
      subst (λ x. step_of x.driver.log ≤ step) (sym (item_is R n xs ys a p lt is a)) (late n a (subst (λ m. n < m) p.len lt))

  -- they are still agents of the manager
  pub agents_stay : (t : TurnstileModel BookSetting) (first last : ℕ) (xs ys : List AgentModel) → length ys ≡ length xs → ((k : ℕ) (d : AgentModel) → k < length xs → Went s first last (get_or xs k d) (get_or ys k d)) → All (IsAgentOf t) xs → All (IsAgentOf t) ys
  agents_stay t first last xs ys len went own = λ k d l.
      let lt : k < length xs = subst (λ m. k < m) len l in
      agent_went t s first last (get_or xs k d) (get_or ys k d) (went k d lt) (own k d lt)

  -- and have used no step past the last one
  pub agents_late : (first last : ℕ) (xs ys : List AgentModel) → length ys ≡ length xs → ((k : ℕ) (d : AgentModel) → k < length xs → Went s first last (get_or xs k d) (get_or ys k d)) → All (λ x. step_of x.driver.log ≤ first) xs → All (λ x. step_of x.driver.log ≤ last) ys
  agents_late first last xs ys len went late = λ k d l.
      let lt : k < length xs = subst (λ m. k < m) len l in
      (went k d lt).late (late k d lt)
