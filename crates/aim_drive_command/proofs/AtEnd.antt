-- Each driver of a drive is at its end exactly one of six, and the summary counts two of these.
use Rattle.std.proofs.Common.{◌≡◌, ℕ, zero, suc, ◌+◌, ◌≤◌, ◌==◌, Bool, true, false, ◌||◌, nat_le, List, [], ◌∷◌, ◌++◌, reverse, length, map, filter, filter_map, Option, Some, None, is_some, if◌then◌else◌, refl, sym, ap, ◌∙◌, subst, arith}
use Rattle.std.specs.Prelude.{slice_get}
use Rattle.std.specs.List.{list_any}
use Rattle.std.proofs.lemmas.List.{length-map, reverse-append}
use Rattle.std.proofs.lemmas.List.Folds.{list_any-append}
use Rattle.rand_pcg.specs.Lcg.{Lcg}
use Rattle.aim_messages.specs.declared.entries.Entry.{Entry}
use Rattle.aim_messages.specs.declared.script.Line.{Line}
use Rattle.aim_driver.specs.declared.logs.LogItem.{LogItem}
use Rattle.aim_driver.specs.declared.logs.LogItem.TheVariants as item
use Rattle.aim_driver.specs.Fits.{call_of, calls_of, entries_of, replies_of, reply_of}
use Rattle.aim_driver.specs.Follows.{Call, follows}
use Rattle.aim_driver.specs.Progress.{Progress, through, inside, shut_out, waiting, spent, asking, HasCome, how_many, is_to_come, progress, progress_by}
use Rattle.aim_driver.specs.Rules.{entrance, is_done_sent, sendings, window}
use Rattle.aim_driver.specs.Logs.{has_stopped}
use Rattle.aim_driver.proofs.HowFar.{followed_far}
use Rattle.aim_drive_script.specs.Said.{Drive, drive_in, drives_of, until_of}
use Rattle.aim_drive_script.specs.Scripts.{IsDrive}
use Rattle.aim_drive_script.proofs.Fitting.{short_leads}
use Rattle.aim_drive.specs.Headline.{Headline, VehicleLog, IsFollowed}
use Rattle.aim_drive_command.specs.Drawn.{after_plan, generator, plan_lines}
use Rattle.aim_drive_command.specs.Generated.{IsSummary}
use Rattle.aim_drive_command.specs.Progress.{progress_at_end, progress_of}
use Rattle.aim_drive_command.specs.Runs.{IsRunOf}
use Rattle.aim_drive_command.specs.Summaries.{has_entered, is_confirm, is_entered, is_reject, summary_lines}
use Rattle.aim_drive_command.specs.Traffic.{traffic_lines}
use Rattle.aim_drive_command.proofs.Scripts.{drives_are}

-- one driver

as_many : (calls : List Call) (h : List Entry) (v : ℕ) → calls_of h v ≡ map (λ x. Some x) calls → length calls ≡ length (replies_of h v)
as_many calls h v are =
    sym (length-map calls (λ x. Some x)) ∙ sym (ap length are) ∙ length-map (entries_of h v) call_of ∙ sym (length-map (entries_of h v) reply_of)

followed_come : (until : ℕ) (h : List Entry) (d : Drive) (log : List LogItem) → d.plan.lead ≤ 65536 → IsFollowed until h d log → HasCome d.plan (reverse log) until (progress d.plan log until)
followed_come until h d log short f =
    let all : length (follows d.plan d.up d.down until (replies_of h d.vehicle)).1 ≡ length (replies_of h d.vehicle) =
    ap (λ (r : List LogItem × List Call). length r.1) f.course ∙ as_many f.calls h d.vehicle f.carried in
    subst (λ (r : List LogItem × List Call). HasCome d.plan (reverse r.0) until (progress d.plan r.0 until)) f.course
    (followed_far d.plan d.up d.down 0 until (replies_of h d.vehicle) short (omega arith) all)

pub each_come : (workers : ℕ) (lines : List Line) (h : List Entry) (logs : List VehicleLog) → IsDrive lines → IsRunOf workers lines h logs
    → (k : ℕ) (d : Drive) (x : VehicleLog) → slice_get (drives_of lines) k ≡ Some d → slice_get logs k ≡ Some x → HasCome d.plan (reverse x.1) (until_of lines) (progress d.plan x.1 (until_of lines))
each_come workers lines h logs drive run k d x at there =
    followed_come (until_of lines) h d x.1 (short_leads lines k d drive at) (run.followed k d x at there)

-- who has entered

entered_past : (past : List LogItem) → list_any is_entered past ≡ is_some (entrance past)
entered_past [] = refl
entered_past (item.Sent step m ∷ past) = entered_past past
entered_past (item.Got step seq r ∷ past) = entered_past past
entered_past (item.Entered step id ∷ past) = refl

or_turned : (a b : Bool) → (a || (b || false)) ≡ (b || a)
or_turned true true = refl
or_turned true false = refl
or_turned false true = refl
or_turned false false = refl

any_reverse : (p : LogItem → Bool) (xs : List LogItem) → list_any p (reverse xs) ≡ list_any p xs
any_reverse p [] = refl
any_reverse p (x ∷ xs) =
    ap (list_any p) (reverse-append (x ∷ []) xs) ∙ list_any-append p (reverse xs) (x ∷ []) ∙ or_turned (list_any p (reverse xs)) (p x) ∙ ap (λ b. p x || b) (any_reverse p xs)

entered_is : (x : VehicleLog) → has_entered x ≡ is_some (entrance (reverse x.1))
entered_is x = sym (any_reverse is_entered x.1) ∙ entered_past (reverse x.1)

-- the counts

abbrev one_if : Bool → ℕ
one_if true = 1
one_if false = 0

two_of_six : (entered done stopped come many : Bool) (ps : List Progress)
    → how_many through (progress_by entered done stopped come many ∷ ps) + how_many inside (progress_by entered done stopped come many ∷ ps) ≡ one_if entered + (how_many through ps + how_many inside ps)
two_of_six true true stopped come many ps = omega arith
two_of_six true false stopped come many ps = omega arith
two_of_six false done true come many ps = omega arith
two_of_six false done false true many ps = omega arith
two_of_six false done false false true ps = omega arith
two_of_six false done false false false ps = omega arith

filtered : (x : VehicleLog) (xs : List VehicleLog) (b : Bool) → has_entered x ≡ b → length (filter has_entered (x ∷ xs)) ≡ one_if b + length (filter has_entered xs)
filtered x xs b is = ap (λ c. length (if c then x ∷ filter has_entered xs else filter has_entered xs)) is ∙ go b
  where
    go : (c : Bool) → length (if c then x ∷ filter has_entered xs else filter has_entered xs) ≡ one_if c + length (filter has_entered xs)
    go true = omega arith
    go false = omega arith

entered_are : (until : ℕ) (ds : List Drive) (xs : List VehicleLog) → length xs ≡ length ds
    → length (filter has_entered xs) ≡ how_many through (progress_of until ds xs) + how_many inside (progress_of until ds xs)
entered_are until [] [] same = refl
entered_are until [] (x ∷ xs) same = absurd (omega (arith, same))
entered_are until (d ∷ ds) [] same = absurd (omega (arith, same))
entered_are until (d ∷ ds) (x ∷ xs) same =
    let past = reverse x.1 in
    let e : Bool = is_some (entrance past) in
    let more : length (filter has_entered (x ∷ xs)) ≡ one_if e + length (filter has_entered xs) = filtered x xs e (entered_is x) in
    let rest = entered_are until ds xs (omega (arith, same)) in
    more ∙ ap (λ n. one_if e + n) rest ∙ sym (two_of_six e (is_done_sent past) (has_stopped past) (is_to_come d.plan (window past) until) (nat_le 64 (sendings past)) (progress_of until ds xs))

abbrev pub all_six : List Progress → ℕ
all_six ps = how_many through ps + how_many inside ps + how_many shut_out ps + how_many waiting ps + how_many spent ps + how_many asking ps

six : (ps : List Progress) → length ps ≡ all_six ps
six [] = refl
six (through ∷ ps) = let s : length ps ≡ all_six ps = six ps in omega (arith, s)
six (inside ∷ ps) = let s : length ps ≡ all_six ps = six ps in omega (arith, s)
six (shut_out ∷ ps) = let s : length ps ≡ all_six ps = six ps in omega (arith, s)
six (waiting ∷ ps) = let s : length ps ≡ all_six ps = six ps in omega (arith, s)
six (spent ∷ ps) = let s : length ps ≡ all_six ps = six ps in omega (arith, s)
six (asking ∷ ps) = let s : length ps ≡ all_six ps = six ps in omega (arith, s)

each_once : (until : ℕ) (ds : List Drive) (xs : List VehicleLog) → length xs ≡ length ds → length ds ≡ length (progress_of until ds xs)
each_once until [] xs same = refl
each_once until (d ∷ ds) [] same = absurd (omega (arith, same))
each_once until (d ∷ ds) (x ∷ xs) same = ap (λ n. suc n) (each_once until ds xs (omega (arith, same)))

logs_of_all : (workers : ℕ) (lines : List Line) (h : List Entry) (logs : List VehicleLog) → IsRunOf workers lines h logs → length logs ≡ length (drives_of lines)
logs_of_all workers lines h logs run = sym (length-map logs (λ (x : VehicleLog). x.0)) ∙ ap length run.whose ∙ length-map (drives_of lines) (λ (d : Drive). d.vehicle)

pub all_counted : (workers : ℕ) (lines : List Line) (h : List Entry) (logs : List VehicleLog) → IsRunOf workers lines h logs → length (drives_of lines) ≡ all_six (progress_at_end lines logs)
all_counted workers lines h logs run = each_once (until_of lines) (drives_of lines) logs (logs_of_all workers lines h logs run) ∙ six (progress_at_end lines logs)

pub entered_counted : (workers : ℕ) (lines : List Line) (h : List Entry) (logs : List VehicleLog) → IsRunOf workers lines h logs
    → length (filter has_entered logs) ≡ how_many through (progress_at_end lines logs) + how_many inside (progress_at_end lines logs)
entered_counted workers lines h logs run = entered_are (until_of lines) (drives_of lines) logs (logs_of_all workers lines h logs run)

-- generated traffic

plans_are : (vehicle count : ℕ) (g : Lcg) → length (filter_map (drive_in []) (plan_lines vehicle count g)) ≡ count
unfolding plan_lines
plans_are vehicle zero g = refl
plans_are vehicle (suc count) g = ap (λ n. suc n) (plans_are (vehicle + 1) count (after_plan g))

pub traffic_counted : (number count : ℕ) (text : List ℕ) (a : IsSummary number count text) → count ≡ all_six (progress_at_end (traffic_lines number count) a.logs)
traffic_counted number count text a =
    sym (plans_are 0 count (generator number)) ∙ sym (ap length (drives_are number count)) ∙ all_counted 1 (traffic_lines number count) a.journal a.logs a.run

pub summary_counted : (number count : ℕ) (text : List ℕ) (a : IsSummary number count text) → (let lines = traffic_lines number count in let ps = progress_at_end lines a.logs in
    text ≡ summary_lines (until_of lines) (length a.journal) (length (filter is_confirm a.journal)) (length (filter is_reject a.journal)) (how_many through ps + how_many inside ps))
summary_counted number count text a =
    let lines = traffic_lines number count in
    a.is ∙ ap (summary_lines (until_of lines) (length a.journal) (length (filter is_confirm a.journal)) (length (filter is_reject a.journal))) (entered_counted 1 lines a.journal a.logs a.run)
