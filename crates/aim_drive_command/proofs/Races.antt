-- Where no calls race, the workers don't matter; and a journal is short.
use Rattle.std.proofs.Common.{◌≡◌, ◌≢◌, ◌⊎◌, inl, inr, ℕ, zero, suc, ◌<◌, ◌≤◌, ◌==◌, false, List, [], ◌∷◌, length, map, get_or, Option, Some, None, refl, sym, ap, ◌∙◌, subst, arith}
use Rattle.std.specs.Prelude.{slice_get}
use Rattle.std.proofs.lemmas.Bool.{cases_Bool, eqb-true, eqb-false}
use Rattle.std.proofs.lemmas.List.{length-map}
use Rattle.std.proofs.lemmas.Option.{slice_get_within}
use Rattle.aim_messages.specs.declared.entries.Entry.{Entry}
use Rattle.aim_messages.specs.declared.entries.TheConstants.{OPERATOR}
use Rattle.aim_messages.specs.declared.script.Line.{Line}
use Rattle.aim_layout.specs.Intersection.{Intersection}
use Rattle.aim_driver.specs.declared.logs.LogItem.{LogItem}
use Rattle.aim_driver.specs.declared.orders.Ordered.{Ordered}
use Rattle.aim_driver.specs.Fits.{entries_of, replies_of, call_of}
use Rattle.aim_driver.specs.Follows.{Call}
use Rattle.aim_driver.proofs.CountLemmas.{follows_few}
use Rattle.aim_driver.proofs.SmallFacts.{none_some, some_is}
use Rattle.aim_script.specs.Said.{layout_of, vehicles_of}
use Rattle.aim_drive_script.specs.Said.{Drive, drives_of, orders_of, until_of}
use Rattle.aim_drive.specs.Rounds.{run_size}
use Rattle.aim_drive.specs.Headline.{VehicleLog, Headline}
use Rattle.aim_drive.proofs.Headlines.{count_orders}
use Rattle.aim_drive.proofs.Lists.{element, reads_at}
use Rattle.aim_drive_command.specs.Commands.{IsReport}
use Rattle.aim_drive_command.specs.Races.{AreOfOneRun, NoneRace}
use Rattle.aim_drive_command.specs.Runs.{IsRunOf}
use Rattle.aim_drive_command.proofs.Texts.{same_report}

-- the headline with runs of any other size
without_races : (i : Intersection) (vehicles until size other : ℕ) (drives : List Drive) (orders : List Ordered) (h : List Entry) (logs : List VehicleLog)
    → Headline i vehicles until size drives orders h logs → AreOfOneRun size drives h → Headline i vehicles until other drives orders h logs
without_races i vehicles until size other drives orders h logs x one = record {
  legal = x.legal;
  whose = x.whose;
  followed = x.followed;
  others = x.others;
  given = x.given;
  moments = x.moments;
  orders_first = x.orders_first;
  runs = λ j k c d r ec ed p q e f at at' ce cf same. x.runs j k c d (one j k c d r.order ec ed p q e f at at' ce cf same) ec ed p q e f at at' ce cf same;
  crosses = x.crosses;
  reserved = x.reserved;
  apart = x.apart;
  clear = x.clear;
}

pub alone : (workers : ℕ) (lines : List Line) (h : List Entry) (logs : List VehicleLog) → IsRunOf workers lines h logs → NoneRace workers lines h → IsRunOf 1 lines h logs
alone workers lines h logs x none =
    without_races (layout_of lines) (vehicles_of lines) (until_of lines) (run_size (length (drives_of lines)) workers) (run_size (length (drives_of lines)) 1) (drives_of lines) (orders_of lines) h logs x none

pub alone_text : (workers : ℕ) (lines : List Line) (text other : List ℕ) (a : IsReport workers lines text) → NoneRace workers lines a.journal → IsReport 1 lines other → text ≡ other
alone_text workers lines text other a none b =
    let as_one : IsReport 1 lines text = record {
      journal = a.journal;
      logs = a.logs;
      run = alone workers lines a.journal a.logs a.run none;
      is = a.is;
      told = a.told;
      apart = a.apart;
      own = a.own;
      short = a.short;
      orders = a.orders;
    } in
    same_report lines text other as_one b

-- the drive of a vehicle, where there is one
record IsDriven (drives : List Drive) (v : ℕ) : Type 0 where
  place : ℕ
  drive : Drive
  at : slice_get drives place ≡ Some drive
  own : drive.vehicle ≡ v

driven : (drives : List Drive) (v : ℕ) → IsDriven drives v ⊎ ((k : ℕ) (d : Drive) → slice_get drives k ≡ Some d → d.vehicle ≢ v)
driven [] v = inr (λ k d at. none_some d at)
driven (x ∷ xs) v = elim (cases_Bool (x.vehicle == v)) [
  | inl is ↦ inl (record { place = 0; drive = x; at = refl; own = eqb-true x.vehicle v is })
  | inr not ↦ elim (driven xs v) [
    | inl f ↦ inl (record { place = suc f.place; drive = f.drive; at = f.at; own = f.own })
    | inr none ↦ inr (λ k d at. later not none k d at)
  ]
]
  where
    later : (x.vehicle == v) ≡ false → ((k : ℕ) (d : Drive) → slice_get xs k ≡ Some d → d.vehicle ≢ v) → (k : ℕ) (d : Drive) → slice_get (x ∷ xs) k ≡ Some d → d.vehicle ≢ v
    later not none zero d at = λ own. eqb-false x.vehicle v not (ap (λ (y : Drive). y.vehicle) (some_is x d at) ∙ own)
    later not none (suc k) d at = none k d at

module _ (i : Intersection) (vehicles until size : ℕ) (drives : List Drive) (orders : List Ordered) (h : List Entry) (logs : List VehicleLog) (x : Headline i vehicles until size drives orders h logs) where
  each_few : (k : ℕ) (d : Drive) (y : VehicleLog) → slice_get drives k ≡ Some d → slice_get logs k ≡ Some y → length (entries_of h d.vehicle) ≤ 128
  each_few k d y ed ey =
      let f = x.followed k d y ed ey in
      let most : length f.calls ≤ 128 = subst (λ (r : List LogItem × List Call). length r.1 ≤ 128) f.course (follows_few d.plan d.up d.down 0 until (replies_of h d.vehicle)) in
      let same : length (map call_of (entries_of h d.vehicle)) ≡ length (map (λ (c : Call). Some c) f.calls) = ap (λ (cs : List (Option Call)). length cs) f.carried in
      let size : length (map call_of (entries_of h d.vehicle)) ≡ length (entries_of h d.vehicle) = length-map (entries_of h d.vehicle) call_of in
      let told : length (map (λ (c : Call). Some c) f.calls) ≡ length f.calls = length-map f.calls (λ (c : Call). Some c) in
      omega (arith, most, same, size, told)

  few_of : (v : ℕ) → v ≢ OPERATOR → length (entries_of h v) ≤ 128
  few_of v ne = elim (driven drives v) [
    | inl f ↦ (
        let many : length logs ≡ length drives = sym (length-map logs (λ (y : VehicleLog). y.0)) ∙ ap (λ (ns : List ℕ). length ns) x.whose ∙ length-map drives (λ (d : Drive). d.vehicle) in
        let there = slice_get_within drives f.place f.drive f.at in
        let y = element logs f.place (omega (arith, many, there)) in
        subst (λ n. length (entries_of h n) ≤ 128) f.own (each_few f.place f.drive (get_or logs f.place y.0) f.at (reads_at logs f.place y.0 (omega (arith, many, there)))))
    | inr none ↦ (let e : length (entries_of h v) ≡ 0 = ap (λ (es : List Entry). length es) (x.others v ne none) in omega (arith, e))
  ]

pub few_entries : (workers : ℕ) (lines : List Line) (h : List Entry) (logs : List VehicleLog) → IsRunOf workers lines h logs → (v : ℕ) → v ≢ OPERATOR → length (entries_of h v) ≤ 128
few_entries workers lines h logs x =
    few_of (layout_of lines) (vehicles_of lines) (until_of lines) (run_size (length (drives_of lines)) workers) (drives_of lines) (orders_of lines) h logs x

pub one_each_order : (workers : ℕ) (lines : List Line) (h : List Entry) (logs : List VehicleLog) → IsRunOf workers lines h logs → length (entries_of h OPERATOR) ≡ length (orders_of lines)
one_each_order workers lines h logs x = count_orders (entries_of h OPERATOR) (orders_of lines) x.given
