-- Worked rows: what is printed of two crossings, of a script in which nobody has a leg, and of scripts that aren't whole.
use Rattle.std.proofs.Common.{◌≡◌, inl, inr, ℕ, zero, suc, ◌<◌, ◌≤◌, true, true≢false, List, [], ◌∷◌, ◌++◌, length, codes, Some, None, refl, sym, ap, ◌∙◌, subst, arith}
use Rattle.std.specs.Prelude.{slice_get}
use Rattle.std.specs.Fmt.{digits}
use Rattle.std.specs.Option.{unwrap_or}
use Rattle.std.proofs.lemmas.Bool.{leb-true}
use Rattle.std.proofs.lemmas.List.Elements.{All-nil, All-cons}
use Rattle.aim_script_reading.specs.Commands.{Completes, Shows, ShowsFront, Streams}
use Rattle.aim_io.specs.Lines.{outcomes_from}
use Rattle.aim_messages.specs.declared.messages.Body.{Body}
use Rattle.aim_messages.specs.declared.messages.Body.TheVariants as body
use Rattle.aim_messages.specs.declared.entries.Act.TheVariants as act
use Rattle.aim_messages.specs.declared.entries.Entry.{Entry}
use Rattle.aim_messages.specs.declared.replies.Reply.{Reply}
use Rattle.aim_messages.specs.declared.replies.Reply.TheVariants as reply
use Rattle.aim_geometry.specs.Cells.{Cell}
use Rattle.aim_layout.specs.Intersection.{Intersection}
use Rattle.aim_rules.specs.Cells.{IsIn}
use Rattle.aim_rules.proofs.Rows.{small}
use Rattle.aim_driver.specs.declared.logs.LogItem.TheVariants as item
use Rattle.aim_driver.proofs.Rows.{car, sent, granted}
use Rattle.aim_driver.proofs.SmallFacts.{none_some}
use Rattle.aim_driver.specs.Fits.{entries_of}
use Rattle.aim_safety.specs.Occupied.{is_occupied}
use Rattle.aim_safety.specs.Tiles.{EntersBy}
use Rattle.aim_report.specs.Apart.{AreOnOwnTiles}
use Rattle.aim_report.specs.Told.{AreTold, IsItem, IsLog, IsTold}
use Rattle.aim_drive_command.specs.Ordered.{in_order}
use Rattle.aim_script.specs.declared.decisions.Kind.TheVariants as why
use Rattle.aim_script.specs.declared.decisions.Limit.TheVariants as limit
use Rattle.aim_script.specs.Said.{layout_of}
use Rattle.aim_grid.specs.Headline.{VehicleLog}
use Rattle.aim_grid.specs.Travelled.{IsCrossing}
use Rattle.aim_grid_script.specs.declared.decisions.GridDecision.TheVariants as decision
use Rattle.aim_grid_script.specs.declared.decisions.GridKind.TheVariants as kind
use Rattle.aim_grid_script.specs.declared.lines.GridLine.{GridLine}
use Rattle.aim_grid_script.specs.Said.{layouts_of}
use Rattle.aim_grid.specs.Runs.{IsRunOf}
use Rattle.aim_grid_command.specs.Texts.{crossings_text, grid_report}
use Rattle.aim_grid_command.specs.Commands.{IsReport, IsText, IsTextOf, status_for}
use Rattle.aim_grid_command.specs.Tiles.{TilesAreApartAt, TilesAreOwnAt, lines_at}
use Rattle.aim_grid_command.proofs.Sections.{IsGood, Section, at_crossing, tiles_apart, tiles_own}

-- texts, each as a line
abbrev lines : List (List ℕ) → List ℕ
lines [] = []
lines (t ∷ ts) = t ++ 10 ∷ lines ts

-- two crossings

abbrev entry : ℕ → ℕ → ℕ → Body → Reply → Entry
entry v moment seq b r = record { caller = v; moment = moment; act = act.Message (record { seq = seq; body = b }); reply = r }

-- vehicle 0 crosses, and vehicle 1 did nothing there
abbrev crossed : List Entry
crossed = entry 0 1 1 (body.Request (car 0 11)) (granted 0 11 21) ∷ entry 0 22 2 (body.Done 0) (reply.Ack 0) ∷ []

abbrev crossed_logs : List VehicleLog
crossed_logs =
    (1, [])
    ∷ (0, sent 1 1 (body.Request (car 0 11)) ∷ item.Got 2 1 (granted 0 11 21) ∷ item.Entered 11 0 ∷ sent 22 2 (body.Done 0) ∷ item.Got 23 2 (reply.Ack 0) ∷ [])
    ∷ []

-- at the other one vehicle 1 asked, and has not entered
abbrev asked : List Entry
asked = entry 1 3 1 (body.Request (car 1 13)) (granted 0 13 23) ∷ []

abbrev asked_logs : List VehicleLog
asked_logs = (1, sent 3 1 (body.Request (car 1 13)) ∷ item.Got 4 1 (granted 0 13 23) ∷ []) ∷ []

-- positions begin with 0 at each crossing, vehicles stand in rising order, and the last line counts the entries of both
pub two_crossings : grid_report (small ∷ small ∷ []) 2 (crossed ∷ asked ∷ []) (crossed_logs ∷ asked_logs ∷ [])
    ≡ lines (
    codes "crossing 0"
    ∷ codes "0 0 1 request 1 0 straight 11 500 500 0 1000 700 car -> confirm 0 11 0 0 steady 21" ∷ codes "1 0 22 done 2 0 -> ack 0"
    ∷ codes "log 0 sent 1 request 1 0 straight 11 500 500 0 1000 700 car" ∷ codes "log 0 got 2 1 confirm 0 11 0 0 steady 21" ∷ codes "log 0 entered 11 0"
    ∷ codes "log 0 sent 22 done 2 0" ∷ codes "log 0 got 23 2 ack 0"
    ∷ codes "tiles 0 1 0 11 15" ∷ codes "tiles 0 1 1 12 17" ∷ codes "tiles 0 1 2 14 19" ∷ codes "tiles 0 1 3 16 21"
    ∷ codes "crossing 1"
    ∷ codes "0 1 3 request 1 1 straight 13 500 500 0 1000 700 car -> confirm 0 13 0 0 steady 23"
    ∷ codes "log 1 sent 3 request 1 1 straight 13 500 500 0 1000 700 car" ∷ codes "log 1 got 4 1 confirm 0 13 0 0 steady 23"
    ∷ codes "end 3" ∷ [])
unfolding digits
two_crossings = refl

-- from a number on, and no further than the journals go
pub from_seven_on : crossings_text 1 7 (small ∷ small ∷ small ∷ []) ([] ∷ [] ∷ []) ([] ∷ [] ∷ []) ≡ lines (codes "crossing 7" ∷ codes "crossing 8" ∷ [])
unfolding digits
from_seven_on = refl

-- two blocks of two lanes that cross, one vehicle, and no leg so far

abbrev block : List ℕ
block = codes "aim 1\ngrid 4000 4 100 0 450 4096\ntimes 1500 25 20 0 0\nlanes 2\nmove 0 straight line 0 1500 4000 1500 40\nmove 1 straight line 2500 0 2500 4000 40\npolicy plain fcfs\n"

abbrev two : List ℕ
two = codes "crossings 2\n" ++ block ++ block ++ codes "vehicles 1\nbegin\nuntil 60\n"

-- where nobody has a leg, nothing is asked

nothing_in : {A : Type 0} (c : ℕ) (xs : List A) → slice_get ([] ∷ [] ∷ []) c ≡ Some xs → xs ≡ []
nothing_in zero xs at = sym (ap (λ o. unwrap_or o xs) at)
nothing_in (suc zero) xs at = sym (ap (λ o. unwrap_or o xs) at)
nothing_in (suc (suc c)) xs at = none_some xs at

nobody_there : (i : Intersection) (vehicles : ℕ) → IsCrossing i vehicles [] []
nobody_there i vehicles = record {
  legal = record { well_formed = λ k d l. absurd (omega arith); answered = λ k d l. absurd (omega arith) };
  others = λ n ne. refl;
  crosses = λ k x t ex. none_some x ex;
  reserved = λ k x c ex. none_some x ex;
  apart = λ j k x y ex. none_some x ex;
  clear = λ k x t c ex. none_some x ex;
}

nobody_goes : (i j : Intersection) (vehicles until : ℕ) → IsRunOf (i ∷ j ∷ []) vehicles until [] ([] ∷ [] ∷ []) ([] ∷ [] ∷ [])
nobody_goes i j vehicles until = record {
  rides = [];
  travelled = record {
    count = refl;
    crossings = λ c k h at there. subst (λ (x : List Entry). IsCrossing k vehicles x []) (sym (nothing_in c h there)) (nobody_there k vehicles);
    legs = λ v. tt;
    routes = λ v. tt;
  };
  planned = λ v. refl;
  count = refl;
  there = λ c xs at. nothing_in c xs at;
}

-- the reports of crossings at which nobody did anything tell that, and no tile

nothing_told : AreTold [] ((0, []) ∷ [])
nothing_told = record {
  few = omega arith;
  entries = All-nil IsTold;
  own = All-cons IsLog (0, []) [] (record { vehicle = omega arith; items = All-nil IsItem }) (All-nil IsLog);
  one_each = λ j k d lt l. absurd (omega arith);
}

nobody_on : (i : Intersection) (x : VehicleLog) (c : Cell) → IsIn x ((0, []) ∷ []) → is_occupied i [] x.1 c ≡ true → ⊥
nobody_on i x c (inl is) on = true≢false (sym on ∙ ap (λ (y : VehicleLog). is_occupied i [] y.1 c) is)
nobody_on i x c (inr none) on = none

nothing_on : (i : Intersection) → AreOnOwnTiles i [] ((0, []) ∷ [])
nothing_on i = record {
  enters = All-cons (λ (x : VehicleLog). EntersBy 2147483648 x.1) (0, []) [] tt (All-nil (λ (x : VehicleLog). EntersBy 2147483648 x.1));
  apart = λ x y c mx my ne on. absurd (nobody_on i x c mx on);
  own = λ x c m on. absurd (nobody_on i x c m on);
}

nobody_good : (i : Intersection) → i.grid.n ≤ 64 → IsGood i [] ((0, []) ∷ [])
nobody_good i rows = record { rows = rows; told = nothing_told; on = nothing_on i }

nobody_told : (c : ℕ) (h : List Entry) (xs : List VehicleLog) → slice_get ([] ∷ [] ∷ []) c ≡ Some h → slice_get ([] ∷ [] ∷ []) c ≡ Some xs → AreTold h (in_order 1 xs)
nobody_told c h xs at there = subst (λ (g : List Entry). AreTold g (in_order 1 xs)) (sym (nothing_in c h at)) (subst (λ (ls : List VehicleLog). AreTold [] (in_order 1 ls)) (sym (nothing_in c xs there)) nothing_told)

nobody_at : (i j : Intersection) → i.grid.n ≤ 64 → j.grid.n ≤ 64 → (c : ℕ) → c < 2 → Section 1 0 c (i ∷ j ∷ []) ([] ∷ [] ∷ []) ([] ∷ [] ∷ []) (grid_report (i ∷ j ∷ []) 1 ([] ∷ [] ∷ []) ([] ∷ [] ∷ []))
nobody_at i j first second c lt = at_crossing 1 c 0 (i ∷ j ∷ []) ([] ∷ [] ∷ []) ([] ∷ [] ∷ []) refl refl (nobody_good i first, (nobody_good j second, tt)) (omega arith) (omega arith) lt

nobody_apart : (i j : Intersection) → i.grid.n ≤ 64 → j.grid.n ≤ 64 → (c : ℕ) → c < 2 → TilesAreApartAt c (grid_report (i ∷ j ∷ []) 1 ([] ∷ [] ∷ []) ([] ∷ [] ∷ []))
nobody_apart i j first second c lt = tiles_apart 1 c (i ∷ j ∷ []) ([] ∷ [] ∷ []) ([] ∷ [] ∷ []) _ (nobody_at i j first second c lt)

nobody_own : (i j : Intersection) → i.grid.n ≤ 64 → j.grid.n ≤ 64 → (c : ℕ) (k : Intersection) (h : List Entry) → slice_get (i ∷ j ∷ []) c ≡ Some k → slice_get ([] ∷ [] ∷ []) c ≡ Some h → TilesAreOwnAt k h c (grid_report (i ∷ j ∷ []) 1 ([] ∷ [] ∷ []) ([] ∷ [] ∷ []))
nobody_own i j first second c k h layout at = tiles_own 1 c (i ∷ j ∷ []) ([] ∷ [] ∷ []) ([] ∷ [] ∷ []) _ (nobody_at i j first second c (two_of c h at)) k h layout at
  where
    two_of : (c : ℕ) (h : List Entry) → slice_get ([] ∷ [] ∷ []) c ≡ Some h → c < 2
    two_of zero h at = omega arith
    two_of (suc zero) h at = omega arith
    two_of (suc (suc c)) h at = none_some h at

nobody_short : (c : ℕ) (h : List Entry) → slice_get ([] ∷ [] ∷ []) c ≡ Some h → (v : ℕ) → length (entries_of h v) ≤ 128
nobody_short c h at v = subst (λ (g : List Entry). length (entries_of g v) ≤ 128) (sym (nothing_in c h at)) (omega arith)

-- the lines of a crossing are those up to the next crossing or the end

abbrev marked : List ℕ
marked = lines (codes "crossing 0" ∷ codes "tiles 3 1 0 11 15" ∷ codes "crossing 1" ∷ codes "tiles 4 1 0 11 15" ∷ codes "tiles 5 2 0 11 15" ∷ codes "end 0" ∷ [])

pub lines_of_the_first : lines_at 0 marked ≡ codes "tiles 3 1 0 11 15" ∷ []
unfolding digits
lines_of_the_first = refl

pub lines_of_the_last : lines_at 1 marked ≡ codes "tiles 4 1 0 11 15" ∷ codes "tiles 5 2 0 11 15" ∷ []
unfolding digits
lines_of_the_last = refl

pub lines_of_no_crossing : lines_at 10 marked ≡ []
unfolding digits
lines_of_no_crossing = refl

-- on the tile of one step two vehicles may be at two crossings, and at one crossing they may not
pub one_tile_at_one_crossing : TilesAreApartAt 0 (lines (codes "crossing 0" ∷ codes "tiles 3 1 0 11 15" ∷ codes "tiles 4 1 0 15 17" ∷ codes "end 0" ∷ [])) → ⊥
unfolding digits
one_tile_at_one_crossing apart =
    apart 3 4 (record { row = 1; col = 0; step = 15 }) (λ e. absurd (omega (arith, e)))
    (record { stay = record { row = 1; col = 0; first = 11; last = 15 }; vehicle = omega arith; values = record { row = omega arith; col = omega arith; first = omega arith; last = omega arith }; line = inl refl; covers = record { row = refl; col = refl; after = omega arith; before = omega arith } })
    (record { stay = record { row = 1; col = 0; first = 15; last = 17 }; vehicle = omega arith; values = record { row = omega arith; col = omega arith; first = omega arith; last = omega arith }; line = inr (inl refl); covers = record { row = refl; col = refl; after = omega arith; before = omega arith } })

pub whole_shown : Shows IsText status_for (two ++ codes "end\n") (Some (codes "so ")) (Some (codes "so crossing 0\ncrossing 1\nend 0\n")) 0
unfolding digits outcomes_from layout_of
whole_shown = record {
  text = codes "crossing 0\ncrossing 1\nend 0\n";
  is = record {
    journals = [] ∷ [] ∷ [];
    logs = [] ∷ [] ∷ [];
    run = nobody_goes _ _ _ _;
    is = refl;
    told = nobody_told;
    apart = nobody_apart small small (leb-true small.grid.n 64 refl) (leb-true small.grid.n 64 refl);
    own = nobody_own _ _ (leb-true _ 64 refl) (leb-true _ 64 refl);
    short = nobody_short;
  };
  written = refl;
  status = refl;
}

-- what is written of other scripts

pub a_second_leg_at_the_same_crossing : Shows IsText status_for (two ++ codes "leg 0 0 1 10 3 0 straight 500 500 0 1000 700 car\nleg 0 0 5 10 3 0 straight 500 500 0 1000 700 car\nend\n") (Some (codes "so ")) (Some (codes "so bad line 20 route\n")) 3
unfolding digits outcomes_from layout_of
a_second_leg_at_the_same_crossing = record { text = codes "bad line 20 route\n"; is = refl; written = refl; status = refl }

pub no_crossing : Shows IsText status_for (codes "crossings 0\n") (Some (codes "so ")) (Some (codes "so bad line 1 crossing\n")) 3
unfolding digits outcomes_from
no_crossing = record { text = codes "bad line 1 crossing\n"; is = refl; written = refl; status = refl }

pub a_front_of_no_crossing : ShowsFront IsText (codes "crossings 0\n") (Some (codes "so ")) (Some (codes "so bad line 1 cr"))
unfolding digits outcomes_from
a_front_of_no_crossing = record { text = codes "bad line 1 crossing\n"; is = refl; written = record { front = codes "bad line 1 cr"; rest = codes "ossing\n"; whole = refl; added = refl } }

pub no_line : Shows IsText status_for [] (Some (codes "so ")) (Some (codes "so bad line 1 end\n")) 3
unfolding digits outcomes_from
no_line = record { text = codes "bad line 1 end\n"; is = refl; written = refl; status = refl }

pub a_plain_kind : IsTextOf [] (decision.Bad 262144 (kind.Plain why.Vehicle)) (lines (codes "bad line 262144 vehicle" ∷ []))
unfolding digits
a_plain_kind = refl

pub too_many_vehicles : Shows IsText status_for (codes "crossings 1\n" ++ block ++ codes "vehicles 257\n") (Some (codes "so ")) (Some (codes "so limit vehicles\n")) 6
unfolding digits outcomes_from layout_of
too_many_vehicles = record { text = codes "limit vehicles\n"; is = refl; written = refl; status = refl }

pub a_limit : IsTextOf [] (decision.Limit limit.Sheets) (lines (codes "limit sheets" ∷ []))
unfolding digits
a_limit = refl

-- a source and a sink that tell no bytes and have failed so often
abbrev failing : ℕ → ℕ → Streams
failing source sink = record { left = None; source_faults = source; held = None; sink_faults = sink }

-- where neither the source nor the sink failed, the status of a whole script is 0, or 7

pub whole_completes : Completes status_for (two ++ codes "end\n") (failing 0 0) (failing 0 0) 5 → ⊥
unfolding digits outcomes_from layout_of
whole_completes x = elim (x refl (λ r. absurd (omega arith)) (λ r. absurd (omega arith))) [ inl e ↦ absurd (omega arith) | inr e ↦ absurd (omega arith) ]

pub source_failed : Completes status_for (two ++ codes "end\n") (failing 0 0) (failing 1 0) 4
source_failed = λ status source sink. absurd (source (omega arith))

pub sink_failed : Completes status_for (two ++ codes "end\n") (failing 3 0) (failing 3 2) 5
sink_failed = λ status source sink. absurd (sink (omega arith))

pub bad_completes : Completes status_for (codes "crossings 0\n") (failing 0 0) (failing 0 0) 3
unfolding digits outcomes_from
bad_completes = λ status source sink. absurd (omega arith)

-- what is refused of a report

-- two lines of one tile and a step at one crossing
pub one_tile_twice : (script : List GridLine) → 0 < length (layouts_of script) → IsReport script (lines (codes "crossing 0" ∷ codes "tiles 3 1 0 11 15" ∷ codes "tiles 4 1 0 15 17" ∷ codes "end 0" ∷ [])) → ⊥
one_tile_twice script some x = one_tile_at_one_crossing (x.apart 0 some)

-- a tile of a vehicle that has no entry there
pub a_tile_of_nobody : (script : List GridLine) (i : Intersection) → slice_get (layouts_of script) 0 ≡ Some i → (x : IsReport script (lines (codes "crossing 0" ∷ codes "tiles 3 1 0 11 15" ∷ codes "end 0" ∷ []))) → slice_get x.journals 0 ≡ Some [] → ⊥
unfolding digits
a_tile_of_nobody script i layout x none =
    let own = x.own 0 i [] layout none 3 (record { row = 1; col = 0; step = 15 })
    (record { stay = record { row = 1; col = 0; first = 11; last = 15 }; vehicle = omega arith; values = record { row = omega arith; col = omega arith; first = omega arith; last = omega arith }; line = inl refl; covers = record { row = refl; col = refl; after = omega arith; before = omega arith } }) in
    none_some own.entry own.granted.stands

-- more than 128 entries of a vehicle at a crossing
pub too_many_entries : (script : List GridLine) (text : List ℕ) (x : IsReport script text) (h : List Entry) → slice_get x.journals 0 ≡ Some h → length (entries_of h 0) ≡ 129 → ⊥
too_many_entries script text x h at many =
    let few : length (entries_of h 0) ≤ 128 = x.short 0 h at 0 in
    absurd (omega (arith, many, few))
