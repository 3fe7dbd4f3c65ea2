-- The text that reports a run of routes is one of the lines that say them.
use Rattle.std.proofs.Common.{◌≡◌, ℕ, zero, suc, ◌+◌, ◌*◌, ◌^◌, ◌<◌, ◌≤◌, List, [], ◌∷◌, length, map, Result, Ok, Err, Some, refl, sym, ap, ◌∙◌, subst, arith}
use Rattle.std.specs.Prelude.{All, IfOk, fold, slice_get}
use Rattle.std.specs.Option.{unwrap_or}
use Rattle.std.proofs.lemmas.List.Elements.{All-head, All-tail}
use Rattle.aim_messages.specs.declared.entries.Entry.{Entry}
use Rattle.aim_text_entries.specs.Ranges.{IsEntry}
use Rattle.aim_layout.specs.Intersection.{Intersection}
use Rattle.aim_layout.specs.Valid.{IsValid}
use Rattle.aim_driver.specs.Fits.{entries_of}
use Rattle.aim_driver.proofs.SmallFacts.{none_some}
use Rattle.aim_safety.specs.Tiles.{EntersBy}
use Rattle.aim_report.specs.Told.{AreTold, IsItem}
use Rattle.aim_drive_command.specs.Ordered.{in_order}
use Rattle.aim_drive_command.proofs.OwnTiles.{all_told, on_own_tiles, told_of}
use Rattle.aim_grid.specs.Drove.{Drove}
use Rattle.aim_grid.specs.Headline.{VehicleLog}
use Rattle.aim_grid_script.specs.declared.lines.GridLine.{GridLine}
use Rattle.aim_grid_script.specs.declared.routes.PlannedLeg.{PlannedLeg}
use Rattle.aim_grid_script.specs.declared.routes.Routes.{Routes}
use Rattle.aim_grid_script.specs.Fits.{AreRoutesOf, AreWithin}
use Rattle.aim_grid_script.specs.Said.{legs_of, until_of, vehicles_of}
use Rattle.aim_grid.specs.Runs.{IsRunOf, journal_left, logs_left}
use Rattle.aim_grid.specs.Travelled.{IsCrossing}
use Rattle.aim_grid_command.specs.Commands.{IsReport}
use Rattle.aim_grid_command.specs.Texts.{all_entries, grid_report}
use Rattle.aim_grid_command.specs.Tiles.{TilesAreApartAt, TilesAreOwnAt}
use Rattle.aim_grid_command.specs.Values.{HasValues}
use Rattle.aim_grid_command.proofs.Sections.{AreGood, IsGood, Section, are_good, at_crossing, tiles_apart, tiles_own}
use Rattle.aim_grid_command.proofs.Short.{few_at}

-- what holds of a value holds, where it follows
pub if_ok : {A E : Type 0} {P Q : A → Type 0} (r : Result A E) → ((a : A) → P a → Q a) → IfOk r P → IfOk r Q
if_ok (Ok a) f p = f a p
if_ok (Err e) f p = p

-- ---- what stands at a place

some_is : {A : Type 0} (x y : A) → Some x ≡ Some y → x ≡ y
some_is x y e = ap (λ o. unwrap_or o x) e

all_at : {A : Type 0} (P : A → Type 0) (xs : List A) (c : ℕ) (x : A) → All P xs → slice_get xs c ≡ Some x → P x
all_at P [] c x all at = absurd (none_some x at)
all_at P (y ∷ ys) zero x all at = subst P (some_is y x at) (All-head P y ys all)
all_at P (y ∷ ys) (suc c) x all at = all_at P ys c x (All-tail P y ys all) at

-- a place of a list of what was made of each
record Made {A B : Type 0} (f : A → B) (xs : List A) (c : ℕ) (y : B) : Type 0 where
  from : A
  at : slice_get xs c ≡ Some from
  is : f from ≡ y

made_of : {A B : Type 0} (f : A → B) (xs : List A) (c : ℕ) (y : B) → slice_get (map f xs) c ≡ Some y → Made f xs c y
made_of f [] c y at = absurd (none_some y at)
made_of f (x ∷ xs) zero y at = record { from = x; at = refl; is = some_is _ _ at }
made_of f (x ∷ xs) (suc c) y at = (let m = made_of f xs c y at in record { from = m.from; at = m.at; is = m.is })

-- of lists of one length both have a place
place_of : {A B : Type 0} (xs : List A) (ys : List B) (c : ℕ) (y : B) → length ys ≡ length xs → slice_get ys c ≡ Some y → (x : A) × (slice_get xs c ≡ Some x)
place_of xs [] c y many at = absurd (none_some y at)
place_of [] (z ∷ ys) c y many at = absurd (omega (arith, many))
place_of (x ∷ xs) (z ∷ ys) zero y many at = (x, refl)
place_of (x ∷ xs) (z ∷ ys) (suc c) y many at = place_of xs ys c y (omega (arith, many)) at

-- short lists have few entries
few_entries : (start : ℕ) (hs : List (List Entry)) → ((c : ℕ) (h : List Entry) → slice_get hs c ≡ Some h → length h ≤ 32769) → fold (λ a h. a + length h) start hs ≤ start + 32769 * length hs
few_entries start [] each = omega arith
few_entries start (h ∷ hs) each =
    let here : length h ≤ 32769 = each 0 h refl in
    let more = few_entries (start + length h) hs (λ c k at. each (suc c) k at) in
    omega (arith, here, more)

-- ---- the report of what is left of a run

module _ (lines : List GridLine) (r : Routes) (are : AreRoutesOf lines r) (within : AreWithin r) (left : List Drove)
    (run : IsRunOf r.layouts.items r.vehicles r.until r.legs.items (map journal_left left) (map logs_left left))
    (values : All HasValues left) (valid : All IsValid r.layouts.items)
    (few : All (λ (d : Drove). length d.journal.items ≤ 128 * r.vehicles + 1) left) (enters : All (λ (d : Drove). All (λ l. EntersBy 2147483648 l.driver.log) d.logs.items) left) where
  abbrev layouts : List Intersection
  layouts = r.layouts.items

  abbrev hs : List (List Entry)
  hs = map journal_left left

  abbrev logs : List (List VehicleLog)
  logs = map logs_left left

  -- one crossing
  module _ (c : ℕ) (i : Intersection) (h : List Entry) (xs : List VehicleLog) (layout : slice_get layouts c ≡ Some i) (journal : slice_get hs c ≡ Some h) (those : slice_get logs c ≡ Some xs) where
    crossing : IsCrossing i r.vehicles h xs
    crossing = subst (λ (ls : List VehicleLog). IsCrossing i r.vehicles h ls) (sym (run.there c xs those)) (run.travelled.crossings c i h layout journal)

    from : Made journal_left left c h
    from = made_of journal_left left c h journal

    from_logs : Made logs_left left c xs
    from_logs = made_of logs_left left c xs those

    items : All (λ (x : VehicleLog). All IsItem x.1) xs
    items = subst (λ (ls : List VehicleLog). All (λ (x : VehicleLog). All IsItem x.1) ls) from_logs.is (all_told (All IsItem) from_logs.from.logs.items (all_at HasValues left c from_logs.from values from_logs.at).items)

    entered : All (λ (x : VehicleLog). EntersBy 2147483648 x.1) xs
    entered = subst (λ (ls : List VehicleLog). All (λ (x : VehicleLog). EntersBy 2147483648 x.1) ls) from_logs.is
        (all_told (EntersBy 2147483648) from_logs.from.logs.items (all_at (λ (d : Drove). All (λ l. EntersBy 2147483648 l.driver.log) d.logs.items) left c from_logs.from enters from_logs.at))

    entries : All IsEntry h
    entries = subst (λ (g : List Entry). All IsEntry g) from.is (all_at HasValues left c from.from values from.at).entries

    short : length h ≤ 32769
    short =
        let bound : length from.from.journal.items ≤ 128 * r.vehicles + 1 = all_at (λ (d : Drove). length d.journal.items ≤ 128 * r.vehicles + 1) left c from.from few from.at in
        let some = within.few_vehicles in
        subst (λ (g : List Entry). length g ≤ 32769) from.is (omega (arith, bound, some))

    telling : AreTold h (in_order r.vehicles xs)
    telling = let some = within.few_vehicles in told_of i r.vehicles h xs crossing.legal (omega (arith, some)) (omega (arith, short)) entries items

    good : IsGood i h (in_order r.vehicles xs)
    good = record {
      rows = (all_at IsValid layouts c i valid layout).sound.grid.rows;
      told = telling;
      on = on_own_tiles i h r.vehicles xs crossing.apart crossing.clear crossing.reserved entered;
    }

  many : length hs ≡ length layouts
  many = run.travelled.count

  all_good : AreGood r.vehicles layouts hs logs
  all_good = are_good r.vehicles layouts hs logs good

  short_at : (c : ℕ) (h : List Entry) → slice_get hs c ≡ Some h → length h ≤ 32769
  short_at c h journal =
      let i = place_of layouts hs c h many journal in
      let xs = place_of logs hs c h (many ∙ sym run.count) journal in
      short c i.0 h xs.0 i.1 journal xs.1

  few_all : all_entries hs < 2 ^ 32
  few_all =
      let bound : all_entries hs ≤ 0 + 32769 * length hs = few_entries 0 hs short_at in
      let some = within.few_crossings in
      omega (arith, bound, many, some)

  section : (c : ℕ) → c < length layouts → Section r.vehicles 0 c layouts hs logs (grid_report layouts r.vehicles hs logs)
  section c there = at_crossing r.vehicles c (all_entries hs) layouts hs logs many run.count all_good few_all within.few_crossings there

  -- by the routes
  record IsReported (is : List Intersection) (vehicles until : ℕ) (legs : List PlannedLeg) (text : List ℕ) : Type 0 where
    ran : IsRunOf is vehicles until legs hs logs
    text_is : text ≡ grid_report is vehicles hs logs
    told : (c : ℕ) (h : List Entry) (xs : List VehicleLog) → slice_get hs c ≡ Some h → slice_get logs c ≡ Some xs → AreTold h (in_order vehicles xs)
    apart : (c : ℕ) → c < length is → TilesAreApartAt c text
    own : (c : ℕ) (i : Intersection) (h : List Entry) → slice_get is c ≡ Some i → slice_get hs c ≡ Some h → TilesAreOwnAt i h c text
    short_of : (c : ℕ) (h : List Entry) → slice_get hs c ≡ Some h → (v : ℕ) → length (entries_of h v) ≤ 128

  below : (is : List Intersection) (c : ℕ) (i : Intersection) → slice_get is c ≡ Some i → c < length is
  below [] c i at = absurd (none_some i at)
  below (j ∷ is) zero i at = omega arith
  below (j ∷ is) (suc c) i at = let more = below is c i at in omega (arith, more)

  reported : (text : List ℕ) → text ≡ grid_report layouts r.vehicles hs logs → IsReported layouts r.vehicles r.until r.legs.items text
  reported text is = record {
    ran = run;
    text_is = is;
    told = λ c h xs journal those. (let i = place_of layouts hs c h many journal in telling c i.0 h xs i.1 journal those);
    apart = λ c there. subst (TilesAreApartAt c) (sym is) (tiles_apart r.vehicles c layouts hs logs (grid_report layouts r.vehicles hs logs) (section c there));
    own = λ c i h layout journal. subst (TilesAreOwnAt i h c) (sym is) (tiles_own r.vehicles c layouts hs logs (grid_report layouts r.vehicles hs logs) (section c (below layouts c i layout)) i h layout journal);
    short_of = λ c h journal. (let i = place_of layouts hs c h many journal in few_at layouts r.vehicles r.until hs run.rides run.travelled c i.0 h i.1 journal);
  }

  -- and by the lines
  pub is_report : (text : List ℕ) → text ≡ grid_report layouts r.vehicles hs logs → IsReport lines text
  is_report text is =
      let x = subst (λ (is : List Intersection). IsReported is (vehicles_of lines) (until_of lines) (legs_of lines) text) (sym are.layouts)
      (subst (λ (n : ℕ). IsReported layouts n (until_of lines) (legs_of lines) text) (sym are.vehicles)
      (subst (λ (n : ℕ). IsReported layouts r.vehicles n (legs_of lines) text) (sym are.until)
      (subst (λ (ls : List PlannedLeg). IsReported layouts r.vehicles r.until ls text) (sym are.legs) (reported text is)))) in
      record { journals = hs; logs = logs; run = x.ran; is = x.text_is; told = x.told; apart = x.apart; own = x.own; short = x.short_of }
