-- What a legal history has of a driver that entered: which entry granted the crossing, and what the vehicle keeps since.
use Rattle.aim_driver.specs.Crossings.{first_entrance}
use Rattle.std.proofs.Common.{◌≡◌, ◌⊎◌, inl, inr, ℕ, zero, suc, ◌+◌, ◌-◌, ◌<◌, ◌≤◌, Bool, true, false, List, [], ◌∷◌, length, take, max, Some, arith, refl, sym, subst, ◌∙◌, slice_get}
use Rattle.std.specs.Prelude.{◌==◌}
use Rattle.std.proofs.lemmas.Bool.{eqb-true}
use Rattle.std.proofs.Math.Decide.{dec_lt}
use Rattle.std.proofs.lemmas.Option.{slice_get_within}
use Rattle.aim_messages.specs.declared.messages.Message.{Message}
use Rattle.aim_messages.specs.declared.entries.Entry.{Entry}
use Rattle.aim_messages.specs.declared.replies.Reply.{Reply}
use Rattle.aim_layout.specs.Intersection.{Intersection}
use Rattle.aim_rules.specs.History.{Fresh, fresh, is_fresh, is_fresh_seq, now_of}
use Rattle.aim_rules.specs.Kept.{kept}
use Rattle.aim_rules.specs.Legal.{IsLegal}
use Rattle.aim_driver.specs.declared.logs.Entrance.{Entrance}
use Rattle.aim_driver.specs.declared.logs.Window.{Window}
use Rattle.aim_driver.specs.declared.logs.LogItem.{LogItem}
use Rattle.aim_driver.specs.declared.logs.LogItem.TheVariants as item
use Rattle.aim_driver.specs.Bodies.{is_done}
use Rattle.aim_driver.specs.Logs.{Crossing}
use Rattle.aim_driver.specs.Keeps.{keeps}
use Rattle.aim_driver.specs.Fits.{Fits, WasSent, HasReply}
use Rattle.aim_driver.specs.Crossings.{EachSent, CrossesAsGranted}
use Rattle.aim_driver.proofs.CrossingLemmas.{fitting_ran}
use Rattle.aim_safety.proofs.PlaceLemmas.{some_same, entry_at, now_next, kept_same, kept_fresh, kept_since, kept_stands, above_earlier}
use Rattle.aim_safety.proofs.HeldLemmas.{Grants, Held, grants, held}
use Rattle.aim_safety.proofs.EntranceLemmas.{crosses_there}

-- what holds of each message of a log holds of one that it sent
sent_has : (P : ℕ → Message → Type 0) (m : Message) (moment : ℕ) (log : List LogItem) → EachSent P log → WasSent m moment log → (t : ℕ) × (t ≤ moment) × P t m
sent_has P m moment [] a s = absurd s
sent_has P m moment (item.Sent step n ∷ xs) a (inl e) = let Q : Message → Type 0 = λ k. P step k in (step, e.1, subst Q e.0 a.0)
sent_has P m moment (item.Sent step n ∷ xs) a (inr s) = sent_has P m moment xs a.1 s
sent_has P m moment (item.Got step seq r ∷ xs) a s = sent_has P m moment xs a s
sent_has P m moment (item.Entered step id ∷ xs) a s = sent_has P m moment xs a s

-- each message of a greater number was sent past a crossing
abbrev IsLater : ℕ → ℕ → Window → ℕ → Message → Type 0
IsLater seq step w t m = (m.seq ≤ seq) ⊎ ((is_done m.body ≡ true) × (step + w.last < t + w.start))

-- from the message that told of the reservation on, it is kept until the crossing is over
kept_until : (h : List Entry) (v seq step : ℕ) (w : Window) (log : List LogItem) (id : ℕ) → Fits h v log → EachSent (IsLater seq step w) log → (g : Held h v seq id) → (n : ℕ) → (g.place + 1) + n ≤ length h →
    (kept (fresh (take ((g.place + 1) + n) h)) v ≡ Some g.reservation) ⊎ (step + w.last < now_of (take ((g.place + 1) + n) h) 0 + w.start)
kept_until h v seq step w log id fits sent g zero l = let e : (g.place + 1) + 0 ≡ g.place + 1 = omega arith in inl (rw e g.keeps)
kept_until h v seq step w log id fits sent g (suc n) l = rw next (go (kept_until h v seq step w log id fits sent g n (omega arith)))
  where
    k : ℕ
    k = (g.place + 1) + n

    next : (g.place + 1) + suc n ≡ k + 1
    next = omega arith

    e : (e : Entry) × (slice_get h k ≡ Some e)
    e = entry_at h k (omega arith)

    time : step + w.last < now_of (take k h) 0 + w.start → step + w.last < now_of (take (k + 1) h) 0 + w.start
    time p = let t = now_next h k e.0 e.1 in omega arith

    own : e.0.caller ≡ v → is_fresh (take k h) e.0 ≡ true → step + w.last < now_of (take (k + 1) h) 0 + w.start
    own same f =
        let c = fits.sent k e.0 e.1 same in
        let new : is_fresh_seq (take k h) v c.message.seq ≡ true = rw (c.carried, same) at f in
        let above = above_earlier h k g.place v c.message.seq g.entry g.message new (omega arith) g.stands g.own g.carried in
        let s = sent_has (IsLater seq step w) c.message e.0.moment log sent c.sent in
        let t = now_next h k e.0 e.1 in
        later c.message s.0 above s.1 s.2 t
      where
        later : (m : Message) (at : ℕ) → g.message.seq < m.seq → at ≤ e.0.moment → IsLater seq step w at m → now_of (take (k + 1) h) 0 ≡ max (now_of (take k h) 0) e.0.moment → step + w.last < now_of (take (k + 1) h) 0 + w.start
        later m at above past (inl low) t = absurd (let q = g.number in omega arith)
        later m at above past (inr p) t = let d = p.1 in omega arith

    by_caller : (b : Bool) → (e.0.caller == v) ≡ b → is_fresh (take k h) e.0 ≡ true → kept (fresh (take k h)) v ≡ Some g.reservation →
        (kept (fresh (take (k + 1) h)) v ≡ Some g.reservation) ⊎ (step + w.last < now_of (take (k + 1) h) 0 + w.start)
    by_caller true b f keeps = inr (own (eqb-true e.0.caller v b) f)
    by_caller false b f keeps = inl (kept_fresh h k e.0 v e.1 f ∙ rw b keeps)

    by_fresh : (b : Bool) → is_fresh (take k h) e.0 ≡ b → kept (fresh (take k h)) v ≡ Some g.reservation →
        (kept (fresh (take (k + 1) h)) v ≡ Some g.reservation) ⊎ (step + w.last < now_of (take (k + 1) h) 0 + w.start)
    by_fresh true f keeps = by_caller (e.0.caller == v) refl f keeps
    by_fresh false f keeps = inl (kept_same h k e.0 v e.1 f ∙ keeps)

    go : (kept (fresh (take k h)) v ≡ Some g.reservation) ⊎ (step + w.last < now_of (take k h) 0 + w.start) →
        (kept (fresh (take (k + 1) h)) v ≡ Some g.reservation) ⊎ (step + w.last < now_of (take (k + 1) h) 0 + w.start)
    go (inl keeps) = by_fresh (is_fresh (take k h) e.0) refl keeps
    go (inr past) = inr (time past)

-- the history of a driver that entered
pub record Crosses (i : Intersection) (h : List Entry) (v : ℕ) (t : Entrance) : Type 0 where
  pub window : Window
  pub grant : Grants i h v t.id window
  pub not_early : window.start ≤ t.step + window.early
  pub not_late : t.step ≤ window.start + window.late
  pub behind : (l : ℕ) → t.id < l → l ≤ length h →
      ((x : Fresh) × (kept (fresh (take l h)) v ≡ Some x) × (x.entry ≡ grant.entry)) ⊎ (t.step + window.last < now_of (take l h) 0 + window.start)

kept_behind : (i : Intersection) (h : List Entry) (v seq step : ℕ) (w : Window) (log : List LogItem) (id : ℕ) → Fits h v log → EachSent (IsLater seq step w) log → Held h v seq id → (e : Entry) → slice_get h id ≡ Some e → (l : ℕ) → id < l → l ≤ length h →
    ((x : Fresh) × (kept (fresh (take l h)) v ≡ Some x) × (x.entry ≡ e)) ⊎ (step + w.last < now_of (take l h) 0 + w.start)
kept_behind i h v seq step w log id fits sent g e at l above within = elim (dec_lt (g.place + 1) l) [
  | yes m ↦ (
      let n : (g.place + 1) + (l - (g.place + 1)) ≡ l = omega arith in
      elim (rw n at (kept_until h v seq step w log id fits sent g (l - (g.place + 1)) (omega arith))) [
        | inl k ↦ inl (found k)
        | inr p ↦ inr p
      ])
  | no m ↦ (
      let n : l + ((g.place + 1) - l) ≡ g.place + 1 = omega arith in
      let s = g.same in
      let b = place_within in
      let k : kept (fresh (take (l + ((g.place + 1) - l)) h)) v ≡ Some g.reservation = rw n g.keeps in
      inl (found (kept_since h v g.reservation l (omega arith) ((g.place + 1) - l) (omega arith) k)))
]
  where
    place_within : g.place < length h
    place_within = slice_get_within h g.place g.entry g.stands

    found : kept (fresh (take l h)) v ≡ Some g.reservation → (x : Fresh) × (kept (fresh (take l h)) v ≡ Some x) × (x.entry ≡ e)
    found k =
        let s = kept_stands h l v g.reservation within k in
        let there : slice_get h id ≡ Some g.reservation.entry = rw g.same at s.1 in
        (g.reservation, k, some_same g.reservation.entry e (sym there ∙ at))

begun_at : (heard : ℕ → Reply → Type 0) (log : List LogItem) (c : Crossing) (step id : ℕ) → c.step ≡ step → c.id ≡ id → CrossesAsGranted heard log c → CrossesAsGranted heard log (record { step = step; id = id; window = c.window })
begun_at heard log c step id p q r =
    let P : ℕ → Type 0 = λ s. CrossesAsGranted heard log (record { step = s; id = c.id; window = c.window }) in
    let Q : ℕ → Type 0 = λ k. CrossesAsGranted heard log (record { step = step; id = k; window = c.window }) in
    subst Q q (subst P p r)

-- what the history has of a driver that keeps the rules and entered, if its log fits the history
pub crosses : (i : Intersection) (vehicles : ℕ) (h : List Entry) (v : ℕ) (log : List LogItem) (t : Entrance) → IsLegal i vehicles h → keeps log ≡ true → Fits h v log → first_entrance log ≡ Some t → Crosses i h v t
crosses i vehicles h v log t legal rules fits at =
    let c = crosses_there log t rules at in
    let r = fitting_ran h v log c.0 rules fits c.1 in
    let ran = begun_at (HasReply h v) log c.0 t.step t.id c.2 c.3 r in
    let g = grants i vehicles h v t.id ran.window legal ran.granted in
    record {
      window = ran.window;
      grant = g;
      not_early = ran.not_early;
      not_late = ran.not_late;
      behind = kept_behind i h v ran.seq t.step ran.window log t.id fits ran.sent (held i vehicles h v ran.seq t.id legal ran.told) g.entry g.stands;
    }
