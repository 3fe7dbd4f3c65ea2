-- Two drivers are on no tile in one step, and none is on another lane's green.
use Rattle.std.proofs.Common.{◌≡◌, inl, inr, ℕ, ◌+◌, ◌-◌, ◌<◌, ◌≤◌, ◌≢◌, Bool, true, false, List, length, take, Option, Some, None, arith, refl, sym, ap, subst, ◌∙◌, slice_get}
use Rattle.std.specs.Prelude.{◌==◌}
use Rattle.std.proofs.lemmas.Bool.{eq-eqb}
use Rattle.std.proofs.lemmas.Option.{slice_get_within}
use Rattle.std.proofs.Math.Decide.{dec_lt}
use Rattle.aim_messages.specs.declared.messages.Params.{Params}
use Rattle.aim_messages.specs.declared.messages.Message.{Message}
use Rattle.aim_messages.specs.declared.entries.Entry.{Entry}
use Rattle.aim_messages.specs.declared.entries.Act.TheVariants as act
use Rattle.aim_layout.specs.Intersection.{Intersection}
use Rattle.aim_layout.specs.Valid.{IsValid}
use Rattle.aim_geometry.specs.Cells.{Cell}
use Rattle.aim_rules.specs.Cells.{IsIn}
use Rattle.aim_rules.specs.Footprint.{crossing_steps}
use Rattle.aim_rules.specs.Trials.{arriving_at, in_trial, granted_trial}
use Rattle.aim_rules.specs.Claims.{green}
use Rattle.aim_rules.specs.History.{Fresh, fresh, is_fresh, is_fresh_seq, now_of, params_of}
use Rattle.aim_rules.specs.Holds.{is_fast, is_granted, granted_with, is_granted_with}
use Rattle.aim_rules.specs.Answer.{answer}
use Rattle.aim_rules.specs.Kept.{kept, owns}
use Rattle.aim_rules.specs.Known.{known_after}
use Rattle.aim_rules.specs.Legal.{IsLegal}
use Rattle.aim_rules.proofs.AheadLemmas.{granted_ahead}
use Rattle.aim_rules.proofs.CellLemmas.{cells_has}
use Rattle.aim_rules.proofs.HistoryLemmas.{served}
use Rattle.aim_rules.proofs.HistoryLaws.{now_of-max}
use Rattle.aim_rules.proofs.TakenLaws.{AreApart-legal}
use Rattle.aim_driver.specs.declared.logs.Entrance.{Entrance}
use Rattle.aim_driver.specs.declared.logs.LogItem.{LogItem}
use Rattle.aim_driver.specs.declared.logs.Window.{Window}
use Rattle.aim_driver.specs.Crossings.{first_entrance}
use Rattle.aim_driver.specs.Keeps.{keeps}
use Rattle.aim_driver.specs.Fits.{Fits}
use Rattle.aim_safety.specs.Occupied.{Passage, params_in, grant_of, passage, is_on, is_occupied_by, is_occupied}
use Rattle.aim_safety.specs.Reserved.{IsReserved}
use Rattle.aim_safety.proofs.PlaceLemmas.{some_same, legal_at, legal_take, now_next, kept_fresh}
use Rattle.aim_safety.proofs.HeldLemmas.{Grants}
use Rattle.aim_safety.proofs.CrossLemmas.{Crosses, crosses}
use Rattle.aim_safety.proofs.OccupiedLemmas.{Lies, lies, passage_at, grant_is}
use Rattle.aim_safety.proofs.GreenLemmas.{free_green, never_green}

-- what is used of a valid layout
record Buffers (i : Intersection) : Type 0 where
  pub early : i.times.early ≤ i.times.edge
  pub late : i.times.late ≤ i.times.edge
  pub spacing : 0 < i.grid.spacing

buffers : (i : Intersection) → IsValid i → Buffers i
buffers i valid = record { early = valid.sound.times.early; late = valid.sound.times.late; spacing = valid.sound.grid.some_spacing }

-- where a cell lies on which a driver is, by the trial that it was granted
abbrev LiesIn : (i : Intersection) {h : List Entry} {v id : ℕ} {w : Window} → Grants i h v id w → ℕ → Cell → Type 0
LiesIn i g step c = Lies i (arriving_at g.params g.rests.trial.start) g.rests.trial.fast step c

-- the trial that was granted is that of the reply
trial_told : (i : Intersection) (h : List Entry) (v id : ℕ) (w : Window) (g : Grants i h v id w) → granted_trial g.entry.reply ≡ Some g.rests.trial
trial_told i h v id w g = ap granted_trial g.rests.form

-- a cell that it needs is granted by the reply
has_cell : (i : Intersection) (h : List Entry) (v id : ℕ) (w : Window) (c : Cell) (g : Grants i h v id w) → in_trial i g.params g.rests.trial c ≡ true → is_granted_with i (granted_trial g.entry.reply) c (Some g.params) ≡ true
has_cell i h v id w c g needed = ap (λ o. is_granted_with i o c (Some g.params)) (trial_told i h v id w g) ∙ needed

-- a driver that is on a tile: where it entered, what the history has of it, and where the cell lies
record Meets (i : Intersection) (h : List Entry) (v : ℕ) (log : List LogItem) (x : Passage) (c : Cell) : Type 0 where
  pub entrance : Entrance
  pub entered : first_entrance log ≡ Some entrance
  pub crosses : Crosses i h v entrance
  pub params : x.grant.params ≡ crosses.grant.params
  pub lies : LiesIn i crosses.grant entrance.step c

asks_at : (e : Entry) (m : Message) (p : Params) → e.act ≡ act.Message m → params_of m.body ≡ Some p → params_in e ≡ Some p
asks_at e m p carried asks = rw carried asks

meets : (i : Intersection) (vehicles : ℕ) (h : List Entry) (v : ℕ) (log : List LogItem) (x : Passage) (c : Cell) → Buffers i → IsLegal i vehicles h → keeps log ≡ true → Fits h v log → passage i h log ≡ Some x → is_on i x c ≡ true → Meets i h v log x c
meets i vehicles h v log x c b legal rules fits at on =
    let t = passage_at i h log x at in
    let k = crosses i vehicles h v log t.0 legal rules fits t.1 in
    let g = k.grant in
    let asks : params_in g.entry ≡ Some g.params = asks_at g.entry g.message g.params g.carried g.asks in
    let here : grant_of i (Some g.entry) ≡ Some x.grant = ap (grant_of i) (sym g.stands) ∙ t.3 in
    let is = grant_is i g.entry g.params x.grant asks here in
    let s = g.start in
    let e = g.early in
    let l = g.late in
    let from = k.not_early in
    let to = k.not_late in
    let P : Passage → Type 0 = λ y. is_on i y c ≡ true in
    let same : x ≡ record { step = t.0.step; grant = record { params = g.params; fast = is_fast g.entry.reply } } = (λ j. record { step = sym t.2 j; grant = is j }) in
    let fast : is_fast g.entry.reply ≡ g.rests.trial.fast = ap is_fast g.rests.form in
    let there : is_on i (record { step = t.0.step; grant = record { params = g.params; fast = g.rests.trial.fast } }) c ≡ true =
    subst (λ b. is_on i (record { step = t.0.step; grant = record { params = g.params; fast = b } }) c ≡ true) fast (subst P same on) in
    record {
      entrance = t.0;
      entered = t.1;
      crosses = k;
      params = ap (λ g. g.params) is;
      lies = lies i (arriving_at g.params g.rests.trial.start) g.rests.trial.fast t.0.step c b.early b.late (omega arith) (omega arith) there;
    }

-- a granted cell lies ahead of the time at which it was granted, and below the horizon
ahead : (i : Intersection) (vehicles : ℕ) (h : List Entry) (v : ℕ) (t : Entrance) (c : Cell) → Buffers i → IsLegal i vehicles h → (k : Crosses i h v t) → in_trial i k.grant.params k.grant.rests.trial c ≡ true →
    (now_of (take t.id h) k.grant.entry.moment < c.step) × (c.step < now_of (take t.id h) k.grant.entry.moment + i.times.horizon)
ahead i vehicles h v t c b legal k needed =
    let g = k.grant in
    let by_caller : answer i (take t.id h) g.entry.caller g.entry.moment g.entry.act ≡ answer i (take t.id h) v g.entry.moment (act.Message g.message) = rw (g.own, g.carried) refl in
    let told : g.entry.reply ≡ answer i (take t.id h) v g.entry.moment (act.Message g.message) = legal_at i vehicles h t.id g.entry legal g.stands ∙ by_caller in
    granted_ahead i (take t.id h) v g.entry.moment g.message g.params c b.spacing b.early b.late g.new g.asks (rw told at g.confirms)
    (sym (ap (λ r. is_granted_with i (granted_trial r) c (Some g.params)) told) ∙ has_cell i h v t.id k.window c g needed)

-- the cell is in the reservation of an entry that needs it
owned : (i : Intersection) (h : List Entry) (v : ℕ) (c : Cell) (l : ℕ) (e : Entry) (p : Params) (x : Fresh) → kept (fresh (take l h)) v ≡ Some x → x.entry ≡ e → params_in e ≡ Some p → is_granted_with i (granted_trial e.reply) c (Some p) ≡ true → owns i (fresh (take l h)) c v ≡ true
owned i h v c l e p x k s asks needed =
    let here : is_granted_with i (granted_trial e.reply) c (params_in e) ≡ true = rw asks needed in
    let there : is_granted i x c ≡ true = ap (λ e. is_granted_with i (granted_trial e.reply) c (params_in e)) s ∙ here in
    rw k there

is_fresh_at : (h : List Entry) (v : ℕ) (e : Entry) (m : Message) → e.caller ≡ v → e.act ≡ act.Message m → is_fresh_seq h v m.seq ≡ true → is_fresh h e ≡ true
is_fresh_at h v e m own carried new = rw (carried, own) new

-- where the one was granted after the other, no cell is both's
later_apart : (i : Intersection) (vehicles : ℕ) (h : List Entry) (v w : ℕ) (t u : Entrance) (c : Cell) → Buffers i → IsLegal i vehicles h → v ≢ w → (k : Crosses i h v t) → (m : Crosses i h w u) → t.id < u.id →
    LiesIn i k.grant t.step c → LiesIn i m.grant u.step c → ⊥
later_apart i vehicles h v w t u c b legal apart k m before lies_v lies_w = elim (k.behind (u.id + 1) (omega arith) (let l = within in omega arith)) [
  | inl z ↦ apart (AreApart-legal i vehicles (take (u.id + 1) h) b.early b.late (legal_take i vehicles h (u.id + 1) legal) c v w (let n = now_past in omega arith)
      (owned i h v c (u.id + 1) k.grant.entry k.grant.params z.0 z.1 z.2 (asks_at k.grant.entry k.grant.message k.grant.params k.grant.carried k.grant.asks) (has_cell i h v t.id k.window c k.grant lies_v.needed))
      (owned i h w c (u.id + 1) g.entry g.params (served (take u.id h) g.entry) keeps_it refl (asks_at g.entry g.message g.params g.carried g.asks) (has_cell i h w u.id m.window c g lies_w.needed)))
  | inr past ↦ (
      let s = k.grant.start in
      let l = k.grant.last in
      let by : c.step ≤ t.step + (crossing_steps i k.grant.params k.grant.rests.trial.fast - 1) = lies_v.by in
      let n = now_past in
      omega arith)
]
  where
    g : Grants i h w u.id m.window
    g = m.grant

    within : u.id < length h
    within = slice_get_within h u.id g.entry g.stands

    now_past : now_of (take (u.id + 1) h) 0 < c.step
    now_past =
        let a = (ahead i vehicles h w u c b legal m lies_w.needed).0 in
        let n = now_next h u.id g.entry g.stands in
        let t = now_of-max (take u.id h) g.entry.moment in
        omega arith

    new : is_fresh (take u.id h) g.entry ≡ true
    new = is_fresh_at (take u.id h) w g.entry g.message g.own g.carried g.new

    own : (g.entry.caller == w) ≡ true
    own = eq-eqb g.entry.caller w g.own

    keeps_it : kept (fresh (take (u.id + 1) h)) w ≡ Some (served (take u.id h) g.entry)
    keeps_it = kept_fresh h u.id g.entry w g.stands new ∙ rw (own, g.confirms) refl

-- no cell is two drivers'
meet : (i : Intersection) (vehicles : ℕ) (h : List Entry) (v w : ℕ) (log another : List LogItem) (x y : Passage) (c : Cell) → Buffers i → IsLegal i vehicles h → v ≢ w → Meets i h v log x c → Meets i h w another y c → ⊥
meet i vehicles h v w log another x y c b legal apart k m = elim (dec_lt k.entrance.id m.entrance.id) [
  | yes l ↦ later_apart i vehicles h v w k.entrance m.entrance c b legal apart k.crosses m.crosses l k.lies m.lies
  | no n ↦ elim (dec_lt m.entrance.id k.entrance.id) [
    | yes l ↦ later_apart i vehicles h w v m.entrance k.entrance c b legal (λ e. apart (sym e)) m.crosses k.crosses l m.lies k.lies
    | no o ↦ (
        let s : m.entrance.id ≡ k.entrance.id = omega arith in
        let there : slice_get h k.entrance.id ≡ Some m.crosses.grant.entry = ap (slice_get h) (sym s) ∙ m.crosses.grant.stands in
        let one : k.crosses.grant.entry ≡ m.crosses.grant.entry = some_same k.crosses.grant.entry m.crosses.grant.entry (sym k.crosses.grant.stands ∙ there) in
        apart (sym k.crosses.grant.own ∙ ap (λ e. e.caller) one ∙ m.crosses.grant.own))
  ]
]

pub occupied_passage : (i : Intersection) (h : List Entry) (log : List LogItem) (c : Cell) → is_occupied i h log c ≡ true → (x : Passage) × (passage i h log ≡ Some x) × (is_on i x c ≡ true)
occupied_passage i h log c on = go (passage i h log) refl on
  where
    go : (o : Option Passage) → passage i h log ≡ o → is_occupied_by i o c ≡ true → (x : Passage) × (passage i h log ≡ Some x) × (is_on i x c ≡ true)
    go None p on = absurd (cc)
    go (Some x) p on = (x, p, on)

pub no_two_drivers : (i : Intersection) (vehicles : ℕ) (h : List Entry) (v w : ℕ) (a b : List LogItem) (c : Cell) → IsValid i → IsLegal i vehicles h → v ≢ w → keeps a ≡ true → keeps b ≡ true → Fits h v a → Fits h w b →
    is_occupied i h a c ≡ true → is_occupied i h b c ≡ false
no_two_drivers i vehicles h v w a b c valid legal apart rules_a rules_b fits_a fits_b on = go (is_occupied i h b c) refl
  where
    go : (o : Bool) → is_occupied i h b c ≡ o → o ≡ false
    go false p = refl
    go true p =
        let s = buffers i valid in
        let x = occupied_passage i h a c on in
        let y = occupied_passage i h b c p in
        absurd (meet i vehicles h v w a b x.0 y.0 c s legal apart (meets i vehicles h v a x.0 c s legal rules_a fits_a x.1 x.2) (meets i vehicles h w b y.0 c s legal rules_b fits_b y.1 y.2))

pub no_green : (i : Intersection) (vehicles : ℕ) (h : List Entry) (v : ℕ) (a : List LogItem) (x : Passage) (c : Cell) → IsValid i → IsLegal i vehicles h → keeps a ≡ true → Fits h v a →
    passage i h a ≡ Some x → is_on i x c ≡ true → green i h c x.grant.params.lane ≡ None
no_green i vehicles h v a x c valid legal rules fits at on =
    let b = buffers i valid in
    let m = meets i vehicles h v a x c b legal rules fits at on in
    let g = m.crosses.grant in
    let needed = m.lies.needed in
    let near = (ahead i vehicles h v m.entrance c b legal m.crosses needed).1 in
    let listed = cells_has i (arriving_at g.params g.rests.trial.start) g.rests.trial.fast c b.early b.late needed in
    let then_free = free_green i (known_after i (take m.entrance.id h) v g.entry.moment) g.params g.rests.trial c g.rests.free listed in
    ap (λ p. green i h c p.lane) m.params ∙ never_green i vehicles h c g.params.lane m.entrance.id g.entry legal g.stands near then_free

-- a tile on which a driver is was reserved for it
pub is_reserved : (i : Intersection) (vehicles : ℕ) (h : List Entry) (v : ℕ) (a : List LogItem) (c : Cell) → IsValid i → IsLegal i vehicles h → keeps a ≡ true → Fits h v a →
    is_occupied i h a c ≡ true → IsReserved i h v a c
is_reserved i vehicles h v a c valid legal rules fits on =
    let b = buffers i valid in
    let x = occupied_passage i h a c on in
    let m = meets i vehicles h v a x.0 c b legal rules fits x.1 x.2 in
    let g = m.crosses.grant in
    record {
      entrance = m.entrance;
      entered = m.entered;
      entry = g.entry;
      granted = record { stands = g.stands; own = g.own; confirms = g.confirms };
      params = g.params;
      asked = asks_at g.entry g.message g.params g.carried g.asks;
      cell = subst (λ o. IsIn c (granted_with i o (Some g.params))) (sym (trial_told i h v m.entrance.id m.crosses.window g))
          (cells_has i (arriving_at g.params g.rests.trial.start) g.rests.trial.fast c b.early b.late m.lies.needed);
    }
