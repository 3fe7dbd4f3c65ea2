-- What a Confirm to a fresh message grants, as it was prepared.
use Rattle.std.proofs.Common.{◌≡◌, subst, ℕ, ◌+◌, ◌-◌, ◌<◌, ◌≤◌, length, Bool, true, false, ◌&&◌, nat_le, nat_lt, List, Some, refl, sym, ◌∙◌, ap, le-leb, lt-ltb, arith}
use Rattle.std.specs.Prelude.{if◌then◌else◌}
use Rattle.std.proofs.lemmas.Bool.{and_from, leb-false}
use Rattle.aim_messages.specs.declared.entries.Act.TheVariants as act
use Rattle.aim_messages.specs.declared.entries.Entry.{Entry}
use Rattle.aim_messages.specs.declared.messages.Message.{Message}
use Rattle.aim_messages.specs.declared.messages.Params.{Params}
use Rattle.aim_layout.specs.Intersection.{Intersection}
use Rattle.aim_layout.specs.Valid.{IsValid}
use Rattle.aim_tiles.specs.Sheets.{AreAhead, AreTiles}
use Rattle.aim_requests.specs.Requests.{IsTrialOf, Request, prepared_params}
use Rattle.aim_requests.specs.Shapes.{arriving}
use Rattle.aim_rules.specs.Answer.{answer, answer_fresh}
use Rattle.aim_rules.specs.Bad.{span_count}
use Rattle.aim_rules.specs.Trials.{Trial, arriving_at, granted_trial, has_windows, is_fast_made}
use Rattle.aim_rules.specs.History.{is_confirm, is_fresh_seq, now_of, params_of}
use Rattle.aim_rules.specs.Holds.{is_fast, is_granted_with}
use Rattle.aim_rules.specs.Known.{Known, known_after}
use Rattle.aim_rules.proofs.AheadLemmas.{granted_ahead, grants_of}
use Rattle.aim_rules.proofs.GrantLemmas.{IsGranted, confirmed_asks, grants_trial, starts_from, starts_within}
use Rattle.aim_rules.proofs.OneArrival.{granted_at_arrival}
use Rattle.aim_rules.proofs.WindowLaws.{spans-move}
use Rattle.aim_reservations.specs.Keeping.{granted_sheet}
use Rattle.aim_book.specs.Asking.{HasGoneTo}
use Rattle.aim_book.proofs.FreeLemmas.{tiles_of}
use Rattle.aim_book.proofs.EarlyLemmas.{good_params}

-- The request g is that of the message, gone on to the start that is granted.
module _ (i : Intersection) (h : List Entry) (v moment : ℕ) (k : Known) (m : Message) (g : Request) (valid : IsValid i) (is_new : is_fresh_seq h v m.seq ≡ true)
    (same : answer i h v moment (act.Message m) ≡ answer_fresh i k m.body) (confirmed : is_confirm (answer_fresh i k m.body) ≡ true)
    (gone : (p : Params) → params_of m.body ≡ Some p → (t : Trial) → granted_trial (answer_fresh i k m.body) ≡ Some t → HasGoneTo i p t.start g) where
  said_here : is_confirm (answer i h v moment (act.Message m)) ≡ true
  said_here = ap is_confirm same ∙ confirmed

  pub grant : (p : Params) → params_of m.body ≡ Some p → IsGranted i (known_after i h v moment) p (answer i h v moment (act.Message m))
  grant p asks = grants_of i h v moment m p is_new asks said_here

  -- the trial that is granted
  abbrev pub trial : (p : Params) → params_of m.body ≡ Some p → Trial
  trial p asks = (grant p asks).trial

  pub granted_there : (p : Params) (asks : params_of m.body ≡ Some p) → granted_trial (answer_fresh i k m.body) ≡ Some (trial p asks)
  granted_there p asks = sym (ap granted_trial same) ∙ grants_trial i (known_after i h v moment) p (answer i h v moment (act.Message m)) (grant p asks)

  fast_there : (p : Params) (asks : params_of m.body ≡ Some p) → is_fast (answer_fresh i k m.body) ≡ (trial p asks).fast
  fast_there p asks = sym (ap is_fast same) ∙ ap is_fast (grant p asks).form

  -- it is made, and the trial by which the request is judged is no other one that is made
  made_there : (p : Params) (asks : params_of m.body ≡ Some p) → (trial p asks).fast ≡ true → is_fast_made p ≡ true
  made_there p asks fast = go (has_windows i) refl
    where
      go : (b : Bool) → has_windows i ≡ b → is_fast_made p ≡ true
      go true many = sym (starts_within i p (trial p asks) many (grant p asks).among).2 ∙ fast
      go false one = (granted_at_arrival i (known_after i h v moment) p (answer i h v moment (act.Message m)) one (grant p asks)).made (ap is_fast (grant p asks).form ∙ fast)

  steady_there : (p : Params) (asks : params_of m.body ≡ Some p) → (trial p asks).fast ≡ false → (has_windows i && is_fast_made p) ≡ false
  steady_there p asks steady = go (has_windows i) refl
    where
      go : (b : Bool) → has_windows i ≡ b → (has_windows i && is_fast_made p) ≡ false
      go true many = ap (λ c. c && is_fast_made p) many ∙ sym (starts_within i p (trial p asks) many (grant p asks).among).2 ∙ steady
      go false one = ap (λ c. c && is_fast_made p) one

  -- the granted sheet is the granted trial's
  pub trial_granted : (p : Params) (asks : params_of m.body ≡ Some p) → IsTrialOf i (arriving_at p (trial p asks).start) (trial p asks).fast (granted_sheet g (answer_fresh i k m.body)).spans
  trial_granted p asks =
      subst (λ b. IsTrialOf i (arriving_at p (trial p asks).start) (trial p asks).fast (if b then g.first else g.second).spans) (sym (fast_there p asks)) (go (trial p asks).fast refl)
    where
      there : HasGoneTo i p (trial p asks).start g
      there = gone p asks (trial p asks) (granted_there p asks)

      shown : prepared_params g ≡ Some (arriving p (trial p asks).start there.latest)
      shown = good_params i (arriving p (trial p asks).start there.latest) g there.asking there.good

      go : (b : Bool) → (trial p asks).fast ≡ b → IsTrialOf i (arriving_at p (trial p asks).start) b (if b then g.first else g.second).spans
      go true e = let x = there.asking.prepared.fast (arriving p (trial p asks).start there.latest) shown (made_there p asks e) in record { cells = x.cells; count = x.count }
      go false e = let x = there.asking.prepared.steady (arriving p (trial p asks).start there.latest) shown (steady_there p asks e) in record { cells = x.cells; count = x.count }

  -- it has as many spans as the trial at the arrival
  pub granted_count : (p : Params) (asks : params_of m.body ≡ Some p) → length (granted_sheet g (answer_fresh i k m.body)).spans ≡ span_count i p (is_fast (answer_fresh i k m.body))
  granted_count p asks = (trial_granted p asks).count ∙ moves ∙ ap (span_count i p) (sym (fast_there p asks))
    where
      from : p.arrive ≤ (trial p asks).start
      from = starts_from i p (trial p asks) (grant p asks).among

      edge : i.times.edge ≤ p.arrive
      edge = let l : (known_after i h v moment).now + i.times.edge < p.arrive = leb-false p.arrive ((known_after i h v moment).now + i.times.edge) (grant p asks).later in omega arith

      moves : span_count i (arriving_at p (trial p asks).start) (trial p asks).fast ≡ span_count i p (trial p asks).fast
      moves =
          let e : p.arrive + ((trial p asks).start - p.arrive) ≡ (trial p asks).start = omega (arith, from) in
          subst (λ s. span_count i (arriving_at p s) (trial p asks).fast ≡ span_count i p (trial p asks).fast) e (spans-move i p p.arrive ((trial p asks).start - p.arrive) (trial p asks).fast edge)

  pub granted_tiles : AreTiles i.grid.n (granted_sheet g (answer_fresh i k m.body)).spans
  granted_tiles =
      let a = confirmed_asks i k m.body confirmed in
      tiles_of i (arriving_at a.0 (trial a.0 a.1).start) (trial a.0 a.1).fast (granted_sheet g (answer_fresh i k m.body)).spans (trial_granted a.0 a.1).cells

  pub granted_later : AreAhead (now_of h moment) i.times.horizon (granted_sheet g (answer_fresh i k m.body)).spans
  granted_later c t =
      let a = confirmed_asks i k m.body confirmed in
      let needed : is_granted_with i (granted_trial (answer i h v moment (act.Message m))) c (Some a.0) ≡ true =
      ap (λ q. is_granted_with i (granted_trial q) c (Some a.0)) same ∙ ap (λ o. is_granted_with i o c (Some a.0)) (granted_there a.0 a.1) ∙ sym ((trial_granted a.0 a.1).cells c) ∙ t in
      let w = granted_ahead i h v moment m a.0 c valid.sound.grid.some_spacing valid.sound.times.early valid.sound.times.late is_new a.1 said_here needed in
      and_from (nat_le (now_of h moment) c.step) (nat_lt c.step (now_of h moment + i.times.horizon)) (le-leb (now_of h moment) c.step (let l : now_of h moment < c.step = w.0 in omega arith)) (lt-ltb c.step (now_of h moment + i.times.horizon) w.1)
