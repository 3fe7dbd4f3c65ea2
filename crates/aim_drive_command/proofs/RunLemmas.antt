-- A run of a script is one of the lines that say it.
use Rattle.std.proofs.Common.{◌≡◌, ℕ, ◌≤◌, List, length, map, arith, Result, Ok, Err, sym, ap, ◌∙◌, subst}
use Rattle.std.specs.Prelude.{All, IfOk}
use Rattle.std.proofs.lemmas.List.{length-map}
use Rattle.aim_messages.specs.declared.entries.Entry.{Entry}
use Rattle.aim_messages.specs.declared.script.Line.{Line}
use Rattle.aim_layout.specs.Intersection.{Intersection}
use Rattle.aim_layout.specs.Valid.{IsValid}
use Rattle.aim_script.specs.Said.{layout_of, vehicles_of}
use Rattle.aim_drive_script.specs.declared.scripts.DriveScript.{DriveScript}
use Rattle.aim_driver.specs.declared.orders.Ordered.{Ordered}
use Rattle.aim_drive_script.specs.Said.{Drive, until_of, drives_of, orders_of}
use Rattle.aim_drive_script.specs.Scripts.{IsScriptOf, drive_told}
use Rattle.aim_text_entries.specs.Ranges.{IsEntry}
use Rattle.aim_safety.specs.Tiles.{EntersBy}
use Rattle.aim_report.specs.Apart.{AreOnOwnTiles, TilesAreApart, TilesAreOwn}
use Rattle.aim_report.specs.Reports.{report}
use Rattle.aim_report.specs.Told.{AreTold, IsItem}
use Rattle.aim_report.proofs.TileLines.{printed_apart, printed_own}
use Rattle.aim_drive.specs.Rounds.{run_size}
use Rattle.aim_drive.specs.Headline.{Headline, VehicleLog}
use Rattle.aim_drive_command.specs.Traffic.{traffic_lines}
use Rattle.aim_drive_command.specs.Ordered.{in_order}
use Rattle.aim_drive_command.specs.Runs.{IsRunOf}
use Rattle.aim_drive_command.specs.Commands.{IsReport}
use Rattle.aim_drive_command.specs.Generated.{IsSummary}
use Rattle.aim_drive_command.specs.Summaries.{summary}
use Rattle.aim_drive_command.proofs.OwnTiles.{told_of, on_own_tiles}
use Rattle.aim_drive_command.proofs.Races.{few_entries, one_each_order}

-- what holds of a value holds, where it follows
pub if_ok : {A E : Type 0} {P Q : A → Type 0} (r : Result A E) → ((a : A) → P a → Q a) → IfOk r P → IfOk r Q
if_ok (Ok a) f p = f a p
if_ok (Err e) f p = p

module _ (workers : ℕ) (lines : List Line) (s : DriveScript) (is : IsScriptOf lines s) (h : List Entry) (logs : List VehicleLog) where
  count : length s.plans.items ≡ length (drives_of lines)
  count = sym (length-map s.plans.items drive_told) ∙ ap length is.plans

  pub is_run : Headline s.layout s.vehicles s.until (run_size (length s.plans.items) workers) (map drive_told s.plans.items) s.orders.items h logs → IsRunOf workers lines h logs
  is_run l =
      subst (λ (i : Intersection). Headline i (vehicles_of lines) (until_of lines) (run_size (length (drives_of lines)) workers) (drives_of lines) (orders_of lines) h logs) is.layout
      (subst (λ (n : ℕ). Headline s.layout n (until_of lines) (run_size (length (drives_of lines)) workers) (drives_of lines) (orders_of lines) h logs) is.vehicles
      (subst (λ (n : ℕ). Headline s.layout s.vehicles n (run_size (length (drives_of lines)) workers) (drives_of lines) (orders_of lines) h logs) is.until
      (subst (λ (n : ℕ). Headline s.layout s.vehicles s.until (run_size n workers) (drives_of lines) (orders_of lines) h logs) count
      (subst (λ (ds : List Drive). Headline s.layout s.vehicles s.until (run_size (length s.plans.items) workers) ds (orders_of lines) h logs) is.plans
      (subst (λ (os : List Ordered). Headline s.layout s.vehicles s.until (run_size (length s.plans.items) workers) (map drive_told s.plans.items) os h logs) is.orders l)))))

  -- the report of a run of the script is one of the lines
  -- what is known of the values of a drive's journal and logs
  pub record AreValues : Type 0 where
    pub vehicles : s.vehicles ≤ 65536
    pub few : length h ≤ 4294967295
    pub entries : All IsEntry h
    pub items : All (λ (x : VehicleLog). All IsItem x.1) logs
    pub enters : All (λ (x : VehicleLog). EntersBy 2147483648 x.1) logs

  pub is_report : (i : Intersection) (text : List ℕ) → i ≡ s.layout → IsValid i → AreValues → text ≡ report i h (in_order s.vehicles logs)
      → Headline s.layout s.vehicles s.until (run_size (length s.plans.items) workers) (map drive_told s.plans.items) s.orders.items h logs → IsReport workers lines text
  is_report i text same valid values told l =
      let run : IsRunOf workers lines h logs = is_run l in
      let some = values.vehicles in
      let many = is.vehicles in
      let telling : AreTold h (in_order (vehicles_of lines) logs) = told_of (layout_of lines) (vehicles_of lines) h logs run.legal (omega (arith, some, many)) values.few values.entries values.items in
      let on : AreOnOwnTiles (layout_of lines) h (in_order (vehicles_of lines) logs) = on_own_tiles (layout_of lines) h (vehicles_of lines) logs run.apart run.clear run.reserved values.enters in
      let within : (layout_of lines).grid.n ≤ 64 = subst (λ (x : Intersection). x.grid.n ≤ 64) (same ∙ is.layout) valid.sound.grid.rows in
      let text_is : text ≡ report (layout_of lines) h (in_order (vehicles_of lines) logs) =
      told ∙ ap (λ (x : Intersection). report x h (in_order s.vehicles logs)) (same ∙ is.layout) ∙ ap (λ (n : ℕ). report (layout_of lines) h (in_order n logs)) is.vehicles in
      record {
        journal = h;
        logs = logs;
        run = run;
        is = text_is;
        told = telling;
        apart = subst TilesAreApart (sym text_is) (printed_apart (layout_of lines) h (in_order (vehicles_of lines) logs) within telling on);
        own = subst (TilesAreOwn (layout_of lines) h) (sym text_is) (printed_own (layout_of lines) h (in_order (vehicles_of lines) logs) within telling on);
        short = few_entries workers lines h logs run;
        orders = one_each_order workers lines h logs run;
      }

-- the text that counts a run of generated traffic
pub is_summary : (number count : ℕ) (s : DriveScript) → IsScriptOf (traffic_lines number count) s → (h : List Entry) (logs : List VehicleLog)
    → Headline s.layout s.vehicles s.until (run_size (length s.plans.items) 1) (map drive_told s.plans.items) s.orders.items h logs
    → (text : List ℕ) → text ≡ summary s.until h logs → IsSummary number count text
is_summary number count s is h logs l text e = record {
  journal = h;
  logs = logs;
  run = is_run 1 (traffic_lines number count) s is h logs l;
  is = e ∙ ap (λ (n : ℕ). summary n h logs) is.until;
}
