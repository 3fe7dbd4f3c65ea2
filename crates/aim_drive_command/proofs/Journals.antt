-- Where all drivers are in one run, the headline holds of one journal and of one list of logs.
use Rattle.std.proofs.Common.{◌≡◌, ◌≢◌, inl, inr, ℕ, zero, suc, ◌+◌, ◌<◌, ◌≤◌, List, [], ◌∷◌, ◌++◌, length, map, slice_get, Some, refl, sym, ◌∙◌, ap, subst, arith}
use Rattle.std.proofs.lemmas.Bool.{cases_eq, cases_order}
use Rattle.std.proofs.lemmas.List.{take_at}
use Rattle.std.proofs.lemmas.Option.{slice_get_within}
use Rattle.std.proofs.Math.Seq.{append_snoc}
use Rattle.aim_messages.specs.declared.entries.Entry.{Entry}
use Rattle.aim_messages.specs.declared.entries.TheConstants.{OPERATOR}
use Rattle.aim_layout.specs.Intersection.{Intersection}
use Rattle.aim_rules.specs.Answer.{answer}
use Rattle.aim_rules.specs.Legal.{IsLegal, IsAnswered}
use Rattle.aim_driver.specs.declared.logs.LogItem.{LogItem}
use Rattle.aim_driver.specs.Follows.{Call}
use Rattle.aim_driver.proofs.SmallFacts.{some_is, none_some}
use Rattle.aim_driver.specs.declared.orders.Ordered.{Ordered}
use Rattle.aim_drive_script.specs.Said.{Drive}
use Rattle.aim_safety.proofs.PlaceLemmas.{legal_at}
use Rattle.aim_drive.specs.Places.{At}
use Rattle.aim_drive.specs.Runs.{InRun}
use Rattle.aim_drive.specs.Headline.{VehicleLog, IsFollowed}
use Rattle.aim_drive_command.proofs.Lists.{get_behind, heads, tails, at_behind}
use Rattle.aim_drive_command.proofs.Nexts.{Done, done_by, first_of, first_here, stands_first, HasDrive, drive_of, Holds, stranger_next, same_next}

-- the reply of an entry behind some others
replied : (i : Intersection) (vehicles : ℕ) (before es : List Entry) (e : Entry) → IsLegal i vehicles (before ++ e ∷ es) → e.reply ≡ answer i before e.caller e.moment e.act
replied i vehicles before es e legal =
    subst (λ (h : List Entry). IsAnswered i h e) (take_at before (e ∷ es) (length before) refl)
    (legal_at i vehicles (before ++ e ∷ es) (length before) e legal (get_behind before (e ∷ es)))

-- an entry e, and behind it one of the caller n at the moment t
record IsBehind (h : List Entry) (e : Entry) (place n t : ℕ) : Type 0 where
  pub here : At h place e
  pub later : ℕ
  pub entry : Entry
  pub there : At h later entry
  pub order : place < later
  pub own : entry.caller ≡ n
  pub moment : entry.moment ≡ t

is_behind : (before es : List Entry) (e : Entry) (n : ℕ) (c : Done) → first_of (e ∷ es) n ≡ Some c → e.caller ≢ n → IsBehind (before ++ e ∷ es) e (length before) n c.0
is_behind before es e n c is ne =
    let s = stands_first (e ∷ es) n c is in
    go s.place s.entry s.there s.own (ap (λ (d : Done). d.0) s.is)
  where
    here : At (before ++ e ∷ es) (length before) e
    here =
        let a = at_behind before (e ∷ es) 0 e refl in
        let p : a.0 ≡ length before + 0 = a.1 in
        let q : a.0 ≡ length before = omega arith in
        subst (λ k. At (before ++ e ∷ es) k e) q a.2

    go : (k : ℕ) (f : Entry) → At (e ∷ es) k f → f.caller ≡ n → f.moment ≡ c.0 → IsBehind (before ++ e ∷ es) e (length before) n c.0
    go zero f at own t = absurd (ne (ap (λ (z : Entry). z.caller) at ∙ own))
    go (suc k) f at own t =
        let a = at_behind before (e ∷ es) (suc k) f at in
        let p : a.0 ≡ length before + suc k = a.1 in
        record { here = here; later = a.0; entry = f; there = a.2; order = omega arith; own = own; moment = t }

-- the logs of a journal
same_logs : (until : ℕ) (h : List Entry) (drives : List Drive) (xs ys : List VehicleLog) → map (λ (x : VehicleLog). x.0) xs ≡ map (λ (d : Drive). d.vehicle) drives → map (λ (x : VehicleLog). x.0) ys ≡ map (λ (d : Drive). d.vehicle) drives
    → ((k : ℕ) (d : Drive) (x : VehicleLog) → slice_get drives k ≡ Some d → slice_get xs k ≡ Some x → IsFollowed until h d x.1)
    → ((k : ℕ) (d : Drive) (x : VehicleLog) → slice_get drives k ≡ Some d → slice_get ys k ≡ Some x → IsFollowed until h d x.1) → xs ≡ ys
same_logs until h [] [] [] p q f g = refl
same_logs until h [] (x ∷ xs) ys p q f g = absurd (cc p)
same_logs until h [] [] (y ∷ ys) p q f g = absurd (cc q)
same_logs until h (d ∷ ds) [] ys p q f g = absurd (cc p)
same_logs until h (d ∷ ds) (x ∷ xs) [] p q f g = absurd (cc q)
same_logs until h (d ∷ ds) (x ∷ xs) (y ∷ ys) p q f g =
    let firsts : List VehicleLog → List ℕ = λ l. map (λ (x : VehicleLog). x.0) l in
    let vehicles : List ℕ = map (λ (d : Drive). d.vehicle) ds in
    let number : x.0 ≡ y.0 = heads x.0 d.vehicle (firsts xs) vehicles p ∙ sym (heads y.0 d.vehicle (firsts ys) vehicles q) in
    let a = f 0 d x refl refl in
    let b = g 0 d y refl refl in
    let log : x.1 ≡ y.1 = ap (λ (r : List LogItem × List Call). r.0) (sym a.course ∙ b.course) in
    let rest : xs ≡ ys = same_logs until h ds xs ys (tails x.0 d.vehicle (firsts xs) vehicles p) (tails y.0 d.vehicle (firsts ys) vehicles q) (λ k c z ec ez. f (suc k) c z ec ez) (λ k c z ec ez. g (suc k) c z ec ez) in
    λ j. (number j, log j) ∷ rest j

module _ (i : Intersection) (vehicles until size : ℕ) (drives : List Drive) (orders : List Ordered) (wide : length drives ≤ size) where
  abbrev IsRun : List Entry → List VehicleLog → Type 0
  IsRun h logs = Holds i vehicles until size drives orders h logs

  -- who makes an entry has a drive, or it is the operator
  driven : (before es : List Entry) (e : Entry) (logs : List VehicleLog) → IsRun (before ++ e ∷ es) logs → e.caller ≢ OPERATOR → HasDrive drives e.caller
  driven before es e logs x ne =
      elim (drive_of drives e.caller) [
        | inl r ↦ r
        | inr none ↦ none_some (done_by e) (sym (stranger_next i vehicles until size drives orders before (e ∷ es) logs e.caller ne none x) ∙ first_here e es)
      ]

  -- no entry of an earlier drive stands behind one of that moment
  earlier : (h : List Entry) (logs : List VehicleLog) (e : Entry) (place n t : ℕ) → IsRun h logs → IsBehind h e place n t → e.moment ≡ t
      → (c : HasDrive drives n) (d : HasDrive drives e.caller) → c.place < d.place → ⊥
  earlier h logs e place n t x b same c d lt =
      let within : d.place < length drives = slice_get_within drives d.place d.drive d.stands in
      let l : length drives ≤ size = wide in
      let run : InRun size c.place d.place = record { run = 0; first = omega arith; order = lt; last = omega arith } in
      let first : b.later < place = x.runs c.place d.place c.drive d.drive run c.stands d.stands b.later place b.entry e b.there b.here (b.own ∙ sym c.vehicle) (sym d.vehicle) (b.moment ∙ sym same) in
      let o : place < b.later = b.order in
      omega arith

  -- two journals that begin alike go on with an entry of the same caller
  module _ (before es es' : List Entry) (e e' : Entry) (logs logs' : List VehicleLog) (x : IsRun (before ++ e ∷ es) logs) (y : IsRun (before ++ e' ∷ es') logs') where
    next : (n : ℕ) → first_of (e ∷ es) n ≡ first_of (e' ∷ es') n
    next n = same_next i vehicles until size drives orders before (e ∷ es) (e' ∷ es') logs logs' x y n

    apart : e.caller ≢ e'.caller → ⊥
    apart ne =
        let s : IsBehind (before ++ e ∷ es) e (length before) e'.caller e'.moment = is_behind before es e e'.caller (done_by e') (next e'.caller ∙ first_here e' es') ne in
        let s' : IsBehind (before ++ e' ∷ es') e' (length before) e.caller e.moment = is_behind before es' e' e.caller (done_by e) (sym (next e.caller) ∙ first_here e es) (λ p. ne (sym p)) in
        let up : e.moment ≤ s.entry.moment = x.moments (length before) s.later e s.entry s.here s.there s.order in
        let down : e'.moment ≤ s'.entry.moment = y.moments (length before) s'.later e' s'.entry s'.here s'.there s'.order in
        let m : s.entry.moment ≡ e'.moment = s.moment in
        let m' : s'.entry.moment ≡ e.moment = s'.moment in
        let now : e.moment ≡ e'.moment = omega arith in
        elim (cases_eq e.caller OPERATOR) [
          | inl o ↦ ne (o ∙ sym (y.orders_first (length before) s'.later e' s'.entry s'.here s'.there s'.order (sym now ∙ sym m') (s'.own ∙ o)))
          | inr v ↦ elim (cases_eq e'.caller OPERATOR) [
            | inl o ↦ ne (x.orders_first (length before) s.later e s.entry s.here s.there s.order (now ∙ sym m) (s.own ∙ o) ∙ sym o)
            | inr w ↦ (
                let c = driven before es e logs x v in
                let d = driven before es' e' logs' y w in
                elim (cases_order c.place d.place) [
                  | inl p ↦ ne (sym c.vehicle ∙ ap (λ (z : Drive). z.vehicle) (some_is c.drive d.drive (sym c.stands ∙ ap (λ k. slice_get drives k) p ∙ d.stands)) ∙ d.vehicle)
                  | inr q ↦ elim q [
                    | inl lt ↦ earlier (before ++ e' ∷ es') logs' e' (length before) e.caller e.moment y s' (sym now) c d lt
                    | inr lt ↦ earlier (before ++ e ∷ es) logs e (length before) e'.caller e'.moment x s now d c lt
                  ]
                ])
          ]
        ]

    caller_same : e.caller ≡ e'.caller
    caller_same = elim (cases_eq e.caller e'.caller) [ inl p ↦ p | inr ne ↦ absurd (apart ne) ]

    done_same : done_by e ≡ done_by e'
    done_same = some_is (done_by e) (done_by e') (sym (first_here e es) ∙ next e.caller ∙ ap (λ n. first_of (e' ∷ es') n) caller_same ∙ first_here e' es')

    entry_same : e ≡ e'
    entry_same =
        let c : e.caller ≡ e'.caller = caller_same in
        let d : done_by e ≡ done_by e' = done_same in
        let r : e.reply ≡ e'.reply = replied i vehicles before es e x.legal ∙ (λ j. answer i before (c j) (d j).0 (d j).1) ∙ sym (replied i vehicles before es' e' y.legal) in
        λ j. record { caller = c j; moment = (d j).0; act = (d j).1; reply = r j }

  same_rest : (before rest rest' : List Entry) (logs logs' : List VehicleLog) → IsRun (before ++ rest) logs → IsRun (before ++ rest') logs' → rest ≡ rest'
  same_rest before [] [] logs logs' x y = refl
  same_rest before (e ∷ es) [] logs logs' x y =
      none_some (done_by e) (sym (same_next i vehicles until size drives orders before (e ∷ es) [] logs logs' x y e.caller) ∙ first_here e es)
  same_rest before [] (e ∷ es) logs logs' x y =
      none_some (done_by e) (same_next i vehicles until size drives orders before [] (e ∷ es) logs logs' x y e.caller ∙ first_here e es)
  same_rest before (e ∷ es) (e' ∷ es') logs logs' x y =
      let p : e ≡ e' = entry_same before es es' e e' logs logs' x y in
      let x' : IsRun ((before ++ e ∷ []) ++ es) logs = subst (λ (l : List Entry). IsRun l logs) (sym (append_snoc before e es)) x in
      let y' : IsRun ((before ++ e ∷ []) ++ es') logs' = subst (λ (l : List Entry). IsRun l logs') (sym (append_snoc before e es')) (subst (λ (z : Entry). IsRun (before ++ z ∷ es') logs') (sym p) y) in
      let q : es ≡ es' = same_rest (before ++ e ∷ []) es es' logs logs' x' y' in
      λ j. p j ∷ q j

  pub same_journal : (h k : List Entry) (logs others : List VehicleLog) → IsRun h logs → IsRun k others → h ≡ k
  same_journal h k logs others x y = same_rest [] h k logs others x y

  pub same_logs_too : (h k : List Entry) (logs others : List VehicleLog) → IsRun h logs → IsRun k others → logs ≡ others
  same_logs_too h k logs others x y =
      let z : IsRun h others = subst (λ (l : List Entry). IsRun l others) (sym (same_journal h k logs others x y)) y in
      same_logs until h drives logs others x.whose z.whose x.followed z.followed
