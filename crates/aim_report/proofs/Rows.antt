-- Worked rows: what is printed of a small drive, and that it can be of some.
use Rattle.std.proofs.Common.{◌≡◌, ◌≢◌, inl, inr, ℕ, ◌<◌, false, List, [], ◌∷◌, ◌++◌, Option, Some, None, slice_get, codes, refl, ap, subst, arith}
use Rattle.std.specs.Prelude.{◌^◌, All, option_map}
use Rattle.std.specs.Fmt.{digits}
use Rattle.std.proofs.lemmas.List.Elements.{All-nil, All-cons}
use Rattle.std.proofs.lemmas.List.Kept.{AllPairs-cons}
use Rattle.aim_messages.specs.declared.messages.Message.{Message}
use Rattle.aim_messages.specs.declared.messages.Body.TheVariants as body
use Rattle.aim_messages.specs.declared.entries.Act.TheVariants as act
use Rattle.aim_messages.specs.declared.entries.Entry.{Entry}
use Rattle.aim_messages.specs.declared.entries.Order.TheVariants as order
use Rattle.aim_messages.specs.declared.entries.TheConstants.{OPERATOR}
use Rattle.aim_messages.specs.declared.replies.Reason.TheVariants as reason
use Rattle.aim_messages.specs.declared.replies.Reply.{Reply}
use Rattle.aim_messages.specs.declared.replies.Reply.TheVariants as reply
use Rattle.aim_text_words.specs.Ranges.{AreParams, IsMessage}
use Rattle.aim_geometry.specs.Cells.{Cell}
use Rattle.aim_driver.specs.declared.logs.LogItem.{LogItem}
use Rattle.aim_driver.specs.declared.logs.LogItem.TheVariants as item
use Rattle.aim_driver.proofs.Rows.{car}
use Rattle.aim_safety.proofs.Rows.Drives.{windows}
use Rattle.aim_report.specs.declared.stays.Stay.{Stay}
use Rattle.aim_report.specs.Apart.{IsStay, IsOwn, TilesAreApart}
use Rattle.aim_report.specs.Stays.{stays}
use Rattle.aim_report.specs.Reports.{Logged, journal_lines, log_lines, stay_lines, tile_lines, report}
use Rattle.aim_report.specs.Told.{IsTold, IsItem, IsLog, AreTold, log_in}

-- texts, each as a line
abbrev lines : List (List ℕ) → List ℕ
lines [] = []
lines (t ∷ ts) = t ++ 10 ∷ lines ts

abbrev asks : Message
asks = record { seq = 1; body = body.Request (car 0 10) }

abbrev confirmed : Reply
confirmed = reply.Confirm 0 10 1 3 false 20

abbrev asked : Entry
asked = record { caller = 7; moment = 0; act = act.Message asks; reply = confirmed }

abbrev switched : Entry
switched = record { caller = OPERATOR; moment = 4; act = act.Order (order.Switch 1); reply = reply.Switched 0 }

-- the drive enters a step before its arrival
abbrev log : List LogItem
log = item.Sent 0 asks ∷ item.Got 1 1 confirmed ∷ item.Entered 9 0 ∷ []

-- a journal, from position 5 on
pub journal_text : journal_lines 5 (asked ∷ switched ∷ [])
    ≡ lines (codes "5 7 0 request 1 0 straight 10 500 500 0 1000 700 car -> confirm 0 10 1 3 steady 20" ∷ codes "6 operator 4 switch 1 -> switched 0" ∷ [])
unfolding digits
journal_text = refl

-- a log: what was sent, got, and where it entered
pub log_text : log_lines 7 log
    ≡ lines (codes "log 7 sent 0 request 1 0 straight 10 500 500 0 1000 700 car" ∷ codes "log 7 got 1 1 confirm 0 10 1 3 steady 20" ∷ codes "log 7 entered 9 0" ∷ [])
unfolding digits
log_text = refl

-- the number of the message that is answered stands behind the step
pub got_text : log_lines 7 (item.Got 4 2 (reply.Reject (reason.Distance 3500) 11 None) ∷ []) ≡ lines (codes "log 7 got 4 2 reject distance 3500 next 11 held none" ∷ [])
unfolding digits
got_text = refl

-- cells and their stays

abbrev cell : ℕ → ℕ → ℕ → Cell
cell row col step = record { row = row; col = col; step = step }

abbrev stay : ℕ → ℕ → ℕ → ℕ → Stay
stay row col first last = record { row = row; col = col; first = first; last = last }

pub no_cells : stays [] ≡ []
no_cells = refl

-- a step further on the same tile goes on with the stay; a step that is missing, another column or another row does not
pub five_cells : stays (cell 1 2 5 ∷ cell 1 2 6 ∷ cell 1 2 8 ∷ cell 1 3 9 ∷ cell 2 3 10 ∷ []) ≡ stay 1 2 5 6 ∷ stay 1 2 8 8 ∷ stay 1 3 9 9 ∷ stay 2 3 10 10 ∷ []
five_cells = refl

pub stay_text : stay_lines 7 (stay 1 2 5 6 ∷ []) ≡ lines (codes "tiles 7 1 2 5 6" ∷ [])
unfolding digits
stay_text = refl

pub tiles_text : tile_lines windows (asked ∷ []) 7 log ≡ lines (codes "tiles 7 1 0 9 13" ∷ codes "tiles 7 1 1 10 15" ∷ codes "tiles 7 1 2 12 17" ∷ codes "tiles 7 1 3 14 19" ∷ [])
unfolding digits
tiles_text = refl

-- two lines of one tile that have a step in common
pub overlap : TilesAreApart (lines (codes "tiles 1 2 3 4 6" ∷ codes "tiles 2 2 3 6 8" ∷ [])) → ⊥
unfolding digits
overlap x = x 1 2 (cell 2 3 6) (λ is. absurd (omega (arith, is)))
    (record { stay = stay 2 3 4 6; vehicle = omega arith; values = small 2 3 4 6 (omega arith) (omega arith) (omega arith) (omega arith); line = inl refl; covers = record { row = refl; col = refl; after = omega arith; before = omega arith } })
    (record { stay = stay 2 3 6 8; vehicle = omega arith; values = small 2 3 6 8 (omega arith) (omega arith) (omega arith) (omega arith); line = inr (inl refl); covers = record { row = refl; col = refl; after = omega arith; before = omega arith } })
  where
    small : (row col first last : ℕ) → row < 2 ^ 8 → col < 2 ^ 8 → first < 2 ^ 32 → last < 2 ^ 32 → IsStay (stay row col first last)
    small row col first last a b c d = record { row = a; col = b; first = c; last = d }

-- a text without a line is apart
pub no_line : TilesAreApart []
no_line v w c ne x y = x.line

-- the first driver's tile isn't its own by an entry of another vehicle
pub not_its_own : (x : IsOwn windows (asked ∷ []) 3 (cell 1 0 9)) → x.id ≡ 0 → ⊥
not_its_own x first =
    let at : slice_get (asked ∷ []) 0 ≡ Some x.entry = subst (λ n. slice_get (asked ∷ []) n ≡ Some x.entry) first x.granted.stands in
    let callers : ◌≡◌ {A = Option ℕ} (Some 7) (Some x.entry.caller) = ap (option_map (λ (e : Entry). e.caller)) at in
    let seven : 7 ≡ x.entry.caller = cc callers in
    let three = x.granted.own in
    absurd (omega (arith, seven, three))

-- whole reports

pub nothing_text : report windows [] [] ≡ lines (codes "end 0" ∷ [])
unfolding digits
nothing_text = refl

abbrev logs : List Logged
logs = (3, item.Sent 2 asks ∷ []) ∷ (5, []) ∷ (7, log) ∷ []

pub report_text : report windows (asked ∷ switched ∷ []) logs
    ≡ lines (
    codes "0 7 0 request 1 0 straight 10 500 500 0 1000 700 car -> confirm 0 10 1 3 steady 20" ∷ codes "1 operator 4 switch 1 -> switched 0"
    ∷ codes "log 3 sent 2 request 1 0 straight 10 500 500 0 1000 700 car"
    ∷ codes "log 7 sent 0 request 1 0 straight 10 500 500 0 1000 700 car" ∷ codes "log 7 got 1 1 confirm 0 10 1 3 steady 20" ∷ codes "log 7 entered 9 0"
    ∷ codes "tiles 7 1 0 9 13" ∷ codes "tiles 7 1 1 10 15" ∷ codes "tiles 7 1 2 12 17" ∷ codes "tiles 7 1 3 14 19" ∷ codes "end 2" ∷ [])
unfolding digits
report_text = refl

-- the log of a vehicle, of one without items, and of one that isn't there
pub log_of_seven : log_in logs 7 ≡ log
log_of_seven = refl

pub log_of_five : log_in logs 5 ≡ []
log_of_five = refl

pub log_of_four : log_in logs 4 ≡ []
log_of_four = refl

-- what the law of reports asks can be met

params_are : AreParams (car 0 10)
params_are = record { lane = omega arith; arrive = omega arith; latest = omega arith; speed = omega arith; max_speed = omega arith; accel = omega arith; len = omega arith; width = omega arith }

asks_is : IsMessage asks
asks_is = record { seq = omega arith; body = params_are }

asked_is_told : IsTold asked
asked_is_told = record {
  values = record { caller = omega arith; moment = omega arith; act = asks_is; reply = (omega arith, omega arith, omega arith, omega arith, omega arith) };
  caller = omega arith;
}

switched_is_told : IsTold switched
switched_is_told = record { values = record { caller = omega arith; moment = omega arith; act = omega arith; reply = omega arith }; caller = refl }

log_is : All IsItem log
log_is =
    All-cons IsItem (item.Sent 0 asks) (item.Got 1 1 confirmed ∷ item.Entered 9 0 ∷ []) (omega arith, asks_is)
    (All-cons IsItem (item.Got 1 1 confirmed) (item.Entered 9 0 ∷ []) (omega arith, omega arith, (omega arith, omega arith, omega arith, omega arith, omega arith))
    (All-cons IsItem (item.Entered 9 0) [] (omega arith, omega arith) (All-nil IsItem)))

pub the_drive_is_told : AreTold (asked ∷ switched ∷ []) logs
the_drive_is_told = record {
  few = omega arith;
  entries = All-cons IsTold asked (switched ∷ []) asked_is_told (All-cons IsTold switched [] switched_is_told (All-nil IsTold));
  own = All-cons IsLog (3, item.Sent 2 asks ∷ []) ((5, []) ∷ (7, log) ∷ []) (record { vehicle = omega arith; items = All-cons IsItem (item.Sent 2 asks) [] (omega arith, asks_is) (All-nil IsItem) })
      (All-cons IsLog (5, []) ((7, log) ∷ []) (record { vehicle = omega arith; items = All-nil IsItem }) (All-cons IsLog (7, log) [] (record { vehicle = omega arith; items = log_is }) (All-nil IsLog)));
  one_each = AllPairs-cons Differ (3, item.Sent 2 asks ∷ []) ((5, []) ∷ (7, log) ∷ [])
      (All-cons (Differ (3, item.Sent 2 asks ∷ [])) (5, []) ((7, log) ∷ []) (λ is. absurd (omega (arith, is))) (All-cons (Differ (3, item.Sent 2 asks ∷ [])) (7, log) [] (λ is. absurd (omega (arith, is))) (All-nil (Differ (3, item.Sent 2 asks ∷ [])))))
      (AllPairs-cons Differ (5, []) ((7, log) ∷ []) (All-cons (Differ (5, [])) (7, log) [] (λ is. absurd (omega (arith, is))) (All-nil (Differ (5, []))))
      (AllPairs-cons Differ (7, log) [] (All-nil (Differ (7, log))) (λ j k d lt l. absurd (omega arith))));
}
  where
    Differ : Logged → Logged → Type 0
    Differ x y = x.0 ≢ y.0
