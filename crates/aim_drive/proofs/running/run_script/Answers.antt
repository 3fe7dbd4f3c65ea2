use Rattle.std.proofs.Common.{◌≡◌, ℕ, ◌+◌, ◌*◌, ◌≤◌, List, length, map, Result, Ok, Err, sym, ap, ◌∙◌, subst, arith}
use Rattle.std.specs.Prelude.{All, IfOk}
use Rattle.aim_geometry.specs.declared.ground.Grid.{Grid}
use Rattle.aim_layout.specs.Intersection.{Intersection}
use Rattle.aim_layout.specs.Valid.{IsValid}
use Rattle.aim_agents.specs.BookSetting.{BookSetting}
use Rattle.aim_driver.specs.declared.orders.Ordered.{Ordered}
use Rattle.aim_drive_script.specs.Scripts.{drive_told}
use Rattle.aim_agents.specs.Rounds.{run_size}
use Rattle.aim_agents.specs.Orders.{AreOrders}
use Rattle.aim_safety.specs.Tiles.{EntersBy}
use Rattle.aim_drive.specs.declared.running.Drove.{Drove}
use Rattle.aim_drive.specs.declared.running.Logged.{Logged}
use Rattle.aim_drive.specs.Closing.{HeadlineOfSeated}
use Rattle.aim_drive.specs.Headline.{Headline}
use Rattle.aim_drive.specs.Making.{ArePlans, log_of}
use Rattle.aim_drive.proofs.Fitting.{are_plans, are_orders}
use Rattle.aim_drive.proofs.Headlines.{renamed}
use Rattle.aim_drive.proofs.Entering.{logs_enter_by}
use Rattle.aim_drive.proofs.running.run_script.Goals as goal

-- what follows of each answer that isn't a fault
if_ok : {A B : Type 0} (P Q : A → Type 0) (r : Result A B) → ((a : A) → P a → Q a) → IfOk r P → IfOk r Q
if_ok P Q (Ok a) f p = f a p
if_ok P Q (Err e) f p = p

pub seat-requires-clause-plans : goal.seat-requires-clause-plans
seat-requires-clause-plans g c = are_plans c.args.script c.requires.script

pub drive_seated-requires-clause-seated : goal.drive_seated-requires-clause-seated
drive_seated-requires-clause-seated g c κs within =
    let e = c.in_ok-seated.ensures.manager in
    let orders : length c.deref.result.now ≡ length c.args.script.orders.items = ap (λ (l : List Ordered). length l) c.deref.ensures.value in
    let room_is : c.in_ok-seated.seated.manager.setting.room ≡ 128 * c.args.script.vehicles + c.len.result + 1 = ap (λ (x : BookSetting). x.room) e in
    let vehicles_is : c.in_ok-seated.seated.manager.setting.vehicles ≡ c.args.script.vehicles = ap (λ (x : BookSetting). x.vehicles) e in
    let many_orders : c.len.result ≡ length c.args.script.orders.items = omega arith in
    record {
      spans = c.grid-spans.result.spans;
      plans = c.args.script.plans.items;
      are = subst (λ (v : ℕ). ArePlans v c.args.script.plans.items) (sym (ap (λ (x : BookSetting). x.vehicles) e)) (are_plans c.args.script c.requires.script);
      made = c.in_ok-seated.ensures.agents;
      left = c.in_ok-seated.ensures.left;
      room = omega arith;
      sheets = ap (λ (g : Grid). g.spans) (c.grid-spans.ensures.grid ∙ c.ground.ensures.grid) ∙ ap (λ (x : BookSetting). x.layout.grid.spans) (sym e);
      operator = c.in_ok-seated.ensures.operator;
      valid = subst (λ (i : Intersection). IsValid i) (sym (ap (λ (x : BookSetting). x.layout) e)) c.ground.ensures.valid;
    }

pub drive_seated-requires-clause-orders : goal.drive_seated-requires-clause-orders
drive_seated-requires-clause-orders g c κs within =
    let e = c.in_ok-seated.ensures.manager in
    subst (λ (l : List Ordered). AreOrders c.in_ok-seated.seated.manager.setting.layout c.in_ok-seated.seated.manager.setting.vehicles c.args.script.until l) (sym c.deref.ensures.value)
    (subst (λ (x : BookSetting). AreOrders x.layout x.vehicles c.args.script.until c.args.script.orders.items) (sym e) (are_orders c.args.script c.requires.script))

pub returns : goal.returns
returns g c =
    let m = c.in_ok-seated.seated.manager in
    let e = c.in_ok-seated.ensures.manager in
    let made = c.in_ok-seated.ensures.agents in
    let xs = c.in_ok-seated.seated.agents.items in
    let r = c.drive_seated.result in
    let room_is : c.in_ok-seated.seated.manager.setting.room ≡ 128 * c.args.script.vehicles + c.len.result + 1 = ap (λ (x : BookSetting). x.room) e in
    let vehicles_is : c.in_ok-seated.seated.manager.setting.vehicles ≡ c.args.script.vehicles = ap (λ (x : BookSetting). x.vehicles) e in
    let many_orders : c.len.result ≡ length c.args.script.orders.items = omega arith in
    let are = subst (λ (v : ℕ). ArePlans v c.args.script.plans.items) (sym (ap (λ (x : BookSetting). x.vehicles) e)) (are_plans c.args.script c.requires.script) in
    let told : (d : Drove) → HeadlineOfSeated c.in_ok-seated.seated.manager c.args.script.until c.args.workers c.in_ok-seated.seated.agents.items c.deref.result.now d
    → Headline c.args.script.layout c.args.script.vehicles c.args.script.until (run_size (length c.args.script.plans.items) c.args.workers)
    (map drive_told c.args.script.plans.items) c.args.script.orders.items d.journal.items (map log_of d.logs.items) =
    λ d x.
    renamed m.setting.layout c.args.script.layout m.setting.vehicles c.args.script.vehicles c.args.script.until (run_size (length xs) c.args.workers)
    (run_size (length c.args.script.plans.items) c.args.workers) (map drive_told c.args.script.plans.items) c.args.script.orders.items d.journal.items (map log_of d.logs.items) (map log_of d.logs.items)
    (ap (λ (x : BookSetting). x.layout) e) vehicles_is (ap (λ (n : ℕ). run_size n c.args.workers) made.count) (λ i. map log_of d.logs.items)
    (subst (λ (l : List Ordered). Headline c.in_ok-seated.seated.manager.setting.layout c.in_ok-seated.seated.manager.setting.vehicles c.args.script.until
    (run_size (length c.in_ok-seated.seated.agents.items) c.args.workers) (map drive_told c.args.script.plans.items) l d.journal.items (map log_of d.logs.items))
    c.deref.ensures.value (x c.grid-spans.result.spans c.args.script.plans.items are made)) in
    record {
      headline = if_ok
          (λ (d : Drove). HeadlineOfSeated c.in_ok-seated.seated.manager c.args.script.until c.args.workers c.in_ok-seated.seated.agents.items c.deref.result.now d)
          (λ (d : Drove). Headline c.args.script.layout c.args.script.vehicles c.args.script.until (run_size (length c.args.script.plans.items) c.args.workers)
          (map drive_told c.args.script.plans.items) c.args.script.orders.items d.journal.items (map log_of d.logs.items))
          r told c.drive_seated.ensures.headline;
      few = if_ok
          (λ (d : Drove). length d.journal.items ≤ c.in_ok-seated.seated.manager.setting.room)
          (λ (d : Drove). length d.journal.items ≤ 128 * c.args.script.vehicles + length c.args.script.orders.items + 1)
          r (λ d fits. let l : length d.journal.items ≤ c.in_ok-seated.seated.manager.setting.room = fits in omega arith) c.drive_seated.ensures.fits;
      enters = if_ok
          (λ (d : Drove). HeadlineOfSeated c.in_ok-seated.seated.manager c.args.script.until c.args.workers c.in_ok-seated.seated.agents.items c.deref.result.now d)
          (λ (d : Drove). All (λ (l : Logged). EntersBy 2147483648 l.driver.log) d.logs.items)
          r (λ d x. logs_enter_by c.args.script.layout c.args.script.vehicles c.args.script.until (run_size (length c.args.script.plans.items) c.args.workers)
          (map drive_told c.args.script.plans.items) c.args.script.orders.items d.journal.items d.logs.items c.requires.script.until (told d x)) c.drive_seated.ensures.headline;
    }
