-- Agents take the passes of their vehicles.
use Rattle.std.proofs.Common.{◌≡◌, ℕ, ◌+◌, ◌-◌, ◌<◌, inl, inr, List, [], ◌∷◌, ◌++◌, length, length-append, length-take-le, map, take, get_or, refl, sym, ap, ◌∙◌, subst, arith}
use Rattle.std.specs.Prelude.{All, Contains, IsPermutation, remove}
use Rattle.std.specs.List.{range_with_len}
use Rattle.std.proofs.lemmas.Bool.{cases_lt}
use Rattle.std.proofs.lemmas.List.{get_or_append_left, get_or-append_right, get_or-map, get_or_push, get_or_read, get_or-take, length-map, map-append, take_more}
use Rattle.std.proofs.lemmas.List.FromFn.{length-range_with_len, get_or-map-range_with_len}
use Rattle.std.proofs.lemmas.List.Sorted.{Contains-permutation, All-permutation, IsPermutation-more}
use Rattle.aim_messages.specs.declared.entries.Entry.{Entry}
use Rattle.aim_turnstile.specs.Models.{TurnstileModel, IsPassOf, new_pass}
use Rattle.aim_agents.specs.BookSetting.{BookSetting}
use Rattle.aim_drive_script.specs.declared.scripts.Planned.{Planned}
use Rattle.aim_agents.specs.Agents.{AgentModel, AgentPass, IsAgentOf}
use Rattle.aim_drive.specs.Making.{ArePlans, IsMadeOf, IsTaken, all_passes, AreAgentsFor, AreLeft}
use Rattle.aim_drive.proofs.Lists.{element}

-- the pass that was read at a place of the list was taken out
pub taken_at : (ps now left : List AgentPass) (v place : ℕ) (a p : AgentPass) → now ≡ ps → place < length now → a ≡ get_or now place a → a.number ≡ v → p ≡ get_or now place p → left ≡ remove now place
    → IsTaken ps v p left
taken_at ps now left v place a p same lt read own was rest = record {
  number = ap (λ (x : AgentPass). x.number) (was ∙ sym (get_or_read now place a lt read p)) ∙ own;
  place = place;
  within = subst (λ (xs : List AgentPass). place < length xs) same lt;
  was = was ∙ ap (λ (xs : List AgentPass). get_or xs place p) same;
  rest = rest ∙ ap (λ (xs : List AgentPass). remove xs place) same;
}

abbrev pub pass_of : AgentModel → AgentPass
pass_of a = a.pass

module _ (m : TurnstileModel BookSetting) where
  abbrev IsNewPass : AgentPass → Type 0
  IsNewPass p = p ≡ new_pass m p.number

  pub count_all : length (all_passes m) ≡ m.setting.vehicles
  count_all = length-map (range_with_len 0 m.setting.vehicles) (new_pass {E = Entry} m) ∙ length-range_with_len 0 m.setting.vehicles

  pass_at : (v : ℕ) (d : AgentPass) → v < m.setting.vehicles → get_or (all_passes m) v d ≡ new_pass m v
  pass_at v d l = get_or-map-range_with_len (new_pass m) 0 m.setting.vehicles v v d l (omega arith)

  all_new : All IsNewPass (all_passes m)
  all_new k d l =
      let c : length (all_passes m) ≡ m.setting.vehicles = count_all in
      let e : get_or (all_passes m) k d ≡ new_pass m k = pass_at k d (omega arith) in
      subst IsNewPass (sym e) refl

  -- those that are left are new
  pub left_new : (xs : List AgentModel) (left : List AgentPass) → AreLeft m xs left → All IsNewPass left
  left_new xs left p = λ k d l.
      let n : length (map pass_of xs ++ left) ≡ length (map pass_of xs) + length left = length-append (map pass_of xs) left in
      let a : IsNewPass (get_or (map pass_of xs ++ left) (length (map pass_of xs) + k) d) = All-permutation IsNewPass (all_passes m) (map pass_of xs ++ left) p all_new (length (map pass_of xs) + k) d (omega arith) in
      let e : length (map pass_of xs) + k - length (map pass_of xs) ≡ k = omega arith in
      subst IsNewPass (get_or-append_right (map pass_of xs) left (length (map pass_of xs)) (length (map pass_of xs) + k) d refl (omega arith) ∙ ap (λ j. get_or left j d) e) a

  pub contains_pass : (spans : ℕ) (plans : List Planned) (k : ℕ) (p : Planned) (xs : List AgentModel) (left : List AgentPass) → ArePlans m.setting.vehicles plans → AreAgentsFor m spans (take k plans) xs → AreLeft m xs left
      → k < length plans → p ≡ get_or plans k p → Contains (map (λ (q : AgentPass). q.number) left) p.vehicle
  contains_pass spans plans k p xs left are made perm lt is =
      let low : p.vehicle < m.setting.vehicles = subst (λ (q : Planned). q.vehicle < m.setting.vehicles) (sym is) (are.vehicle k p lt) in
      let c : length (all_passes m) ≡ m.setting.vehicles = count_all in
      let f = Contains-permutation (all_passes m) (map pass_of xs ++ left) (new_pass m p.vehicle) perm (p.vehicle, omega arith, pass_at p.vehicle (new_pass m p.vehicle) low) in
      place f.0 f.1 f.2
    where
      place : (j : ℕ) → j < length (map pass_of xs ++ left) → get_or (map pass_of xs ++ left) j (new_pass m p.vehicle) ≡ new_pass m p.vehicle → Contains (map (λ (q : AgentPass). q.number) left) p.vehicle
      place j l e =
          let n : length (map pass_of xs ++ left) ≡ length (map pass_of xs) + length left = length-append (map pass_of xs) left in
          let u : length (map pass_of xs) ≡ length xs = length-map xs pass_of in
          let v : length xs ≡ length (take k plans) = made.count in
          let w : length (take k plans) ≡ k = length-take-le k plans (omega arith) in
          elim (cases_lt j (length (map pass_of xs))) [
            | inl below ↦ (
                let lj : j < length xs = omega arith in
                let a = element xs j lj in
                let jt : j < length (take k plans) = omega arith in
                let jk : j < k = omega arith in
                let own : (get_or xs j a.0).pass ≡ new_pass m (get_or (take k plans) j p).vehicle = (made.each j p a.0 jt).pass in
                let same : (get_or xs j a.0).pass ≡ new_pass m p.vehicle =
                sym (get_or-map pass_of xs j a.0 (new_pass m p.vehicle) lj) ∙ sym (get_or_append_left (map pass_of xs) left (new_pass m p.vehicle) j below) ∙ e in
                let here : (get_or plans j p).vehicle ≡ (get_or plans k p).vehicle =
                ap (λ (q : Planned). q.vehicle) (sym (get_or-take k plans j p jk)) ∙ ap (λ (q : AgentPass). q.number) (sym own ∙ same) ∙ ap (λ (q : Planned). q.vehicle) is in
                absurd (are.one_each j k p jk lt here))
            | inr past ↦ (
                let lj : j - length (map pass_of xs) < length left = omega arith in
                let d = new_pass m p.vehicle in (
                  j - length (map pass_of xs),
                  (let z : length (map (λ (q : AgentPass). q.number) left) ≡ length left = length-map left (λ (q : AgentPass). q.number) in omega arith),
                  get_or-map (λ (q : AgentPass). q.number) left (j - length (map pass_of xs)) d p.vehicle lj
                      ∙ ap (λ (q : AgentPass). q.number) (sym (get_or-append_right (map pass_of xs) left (length (map pass_of xs)) j d refl past) ∙ e),
                ))
          ]

  -- the pass that is taken is new
  pub taken_new : (xs : List AgentModel) (left next : List AgentPass) (v : ℕ) (p : AgentPass) → AreLeft m xs left → IsTaken left v p next → p ≡ new_pass m v
  taken_new xs left next v p perm t = subst (λ n. p ≡ new_pass m n) t.number (subst IsNewPass (sym t.was) (left_new xs left perm t.place p t.within))

  pub left_more : (xs : List AgentModel) (a : AgentModel) (left next : List AgentPass) (v : ℕ) (p : AgentPass) → AreLeft m xs left → IsTaken left v p next → a.pass ≡ p → AreLeft m (xs ++ a ∷ []) next
  left_more xs a left next v p perm t own =
      let moved : IsPermutation (all_passes m) ((map pass_of xs ++ p ∷ []) ++ remove left t.place) = IsPermutation-more (all_passes m) (map pass_of xs) left t.place p t.within t.was perm in
      let e : map pass_of (xs ++ a ∷ []) ≡ map pass_of xs ++ p ∷ [] = map-append pass_of xs (a ∷ []) ∙ ap (λ (q : AgentPass). map pass_of xs ++ q ∷ []) own in
      subst (λ l. IsPermutation (all_passes m) l) ((λ i. sym e i ++ sym t.rest i)) moved

  pub made_more : (spans : ℕ) (ps : List Planned) (p : Planned) (xs : List AgentModel) (a : AgentModel) → AreAgentsFor m spans ps xs → IsMadeOf p (new_pass m p.vehicle) spans a → AreAgentsFor m spans (ps ++ p ∷ []) (xs ++ a ∷ [])
  made_more spans ps p xs a made new =
      let c : length xs ≡ length ps = made.count in
      let n : length (ps ++ p ∷ []) ≡ length ps + 1 = length-append ps (p ∷ []) in
      let u : length (xs ++ a ∷ []) ≡ length xs + 1 = length-append xs (a ∷ []) in
      record {
        count = omega arith;
        each = λ k q d l.
            elim (cases_lt k (length ps)) [
              | inl lt ↦ at (get_or ps k q) (get_or (ps ++ p ∷ []) k q) (get_or xs k d) (get_or (xs ++ a ∷ []) k d)
                  (get_or_append_left ps (p ∷ []) q k lt) (get_or_append_left xs (a ∷ []) d k (omega arith)) (made.each k q d lt)
              | inr ge ↦ at p (get_or (ps ++ p ∷ []) k q) a (get_or (xs ++ a ∷ []) k d) (get_or_push ps p q k (omega arith)) (get_or_push xs a d k (omega arith)) new
            ];
      }
    where
      at : (p p' : Planned) (a a' : AgentModel) → p' ≡ p → a' ≡ a → IsMadeOf p (new_pass m p.vehicle) spans a → IsMadeOf p' (new_pass m p'.vehicle) spans a'
      at p p' a a' ep ea x = subst (λ (q : Planned). IsMadeOf q (new_pass m q.vehicle) spans a') (sym ep) (subst (λ (b : AgentModel). IsMadeOf p (new_pass m p.vehicle) spans b) (sym ea) x)

  -- the next plan of a list
  pub made_next : (spans : ℕ) (plans : List Planned) (k : ℕ) (p : Planned) (xs : List AgentModel) (a : AgentModel) → k < length plans → p ≡ get_or plans k p → AreAgentsFor m spans (take k plans) xs → IsMadeOf p (new_pass m p.vehicle) spans a
      → AreAgentsFor m spans (take (k + 1) plans) (xs ++ a ∷ [])
  made_next spans plans k p xs a lt is made new =
      subst (λ ps. AreAgentsFor m spans ps (xs ++ a ∷ [])) (ap (λ (q : Planned). take k plans ++ q ∷ []) is ∙ sym (take_more plans k p lt)) (made_more spans (take k plans) p xs a made new)

  -- at first there is no agent
  pub made_none : (spans : ℕ) (plans : List Planned) → AreAgentsFor m spans (take 0 plans) []
  made_none spans plans = record { count = refl; each = λ k p d l. absurd (omega arith) }

  -- each is an agent of the manager
  pub agents_own : (spans : ℕ) (plans : List Planned) (xs : List AgentModel) → spans ≡ m.setting.layout.grid.spans → ArePlans m.setting.vehicles plans → AreAgentsFor m spans plans xs → All (IsAgentOf m) xs
  agents_own spans plans xs room are made k d l =
      let c : length xs ≡ length plans = made.count in
      let lt : k < length plans = omega arith in
      let p = element plans k lt in
      let x = made.each k p.0 d lt in
      record {
        pass = subst (λ (q : AgentPass). IsPassOf m q) (sym x.pass) (record { table = refl; setting = refl });
        vehicle = subst (λ (q : AgentPass). q.number < m.setting.vehicles) (sym x.pass) (are.vehicle k p.0 lt);
        room = x.room ∙ room;
      }

  pub agents_new : (spans : ℕ) (plans : List Planned) (xs : List AgentModel) → AreAgentsFor m spans plans xs → All (λ (a : AgentModel). a.driver.log ≡ []) xs
  agents_new spans plans xs made k d l =
      let c : length xs ≡ length plans = made.count in
      let lt : k < length plans = omega arith in
      (made.each k (element plans k lt).0 d lt).new.log
