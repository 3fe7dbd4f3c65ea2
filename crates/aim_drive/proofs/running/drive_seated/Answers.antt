use Rattle.std.proofs.Common.{◌≡◌, ◌+◌, ◌++◌, List, [], length, map, refl, sym, ap, ◌∙◌, subst, arith}
use Rattle.std.specs.Prelude.{All}
use Rattle.aim_drive_script.specs.Scripts.{drive_told}
use Rattle.aim_agents.specs.Agents.{AgentModel, AgentPass, IsAgentOf}
use Rattle.aim_agents.specs.Rounds.{run_size}
use Rattle.aim_drive.specs.Closing.{Leaves}
use Rattle.aim_drive.specs.Making.{told_by, log_of}
use Rattle.aim_drive.proofs.Seats.{agents_own, agents_new}
use Rattle.aim_drive.proofs.Endings.{came_back, lent_full, lent_driven, all_own, count_left, never_full, has_room, all_calm, left_idle}
use Rattle.aim_drive.proofs.Headlines.{renamed, headline, count_orders}
use Rattle.aim_drive.proofs.running.drive_seated.Goals as goal

pub drive-went-requires-clause-operator : goal.drive-went-requires-clause-operator
drive-went-requires-clause-operator g c κs within =
    record { table = ap (λ (p : AgentPass). p.table) c.requires.seated.operator; setting = ap (λ (p : AgentPass). p.setting) c.requires.seated.operator }

pub drive-went-requires-clause-number : goal.drive-went-requires-clause-number
drive-went-requires-clause-number g c κs within = ap (λ (p : AgentPass). p.number) c.requires.seated.operator

pub drive-went-requires-clause-new_operator : goal.drive-went-requires-clause-new_operator
drive-went-requires-clause-new_operator g c κs within =
    (ap (λ (p : AgentPass). p.seen) c.requires.seated.operator, ap (λ (p : AgentPass). p.mine) c.requires.seated.operator)

pub drive-went-requires-clause-agents : goal.drive-went-requires-clause-agents
drive-went-requires-clause-agents g c κs within =
    let s = c.requires.seated in
    subst (λ (l : List AgentModel). All (IsAgentOf c.args.seated.manager) l) (sym c.deref_mut.ensures.value)
    (agents_own c.args.seated.manager s.spans s.plans c.args.seated.agents.items s.sheets s.are s.made)

pub drive-went-requires-clause-new_agents : goal.drive-went-requires-clause-new_agents
drive-went-requires-clause-new_agents g c κs within =
    let s = c.requires.seated in
    subst (λ (l : List AgentModel). All (λ (a : AgentModel). a.driver.log ≡ []) l) (sym c.deref_mut.ensures.value)
    (agents_new c.args.seated.manager s.spans s.plans c.args.seated.agents.items s.made)

pub left_by-requires-clause-own : goal.left_by-requires-clause-own
left_by-requires-clause-own g c =
    let m = c.args.seated.manager in
    let s = c.requires.seated in
    let xs = c.args.seated.agents.items in
    let ys = c.drive-went.new.agents in
    let rest = c.args.seated.passes.items in
    let b = came_back m.setting c.args.until c.args.workers c.args.seated.agents.len c.drive-went.new.operator xs c.deref_mut.result.now ys (length c.args.orders.now) c.drive-went.result
    c.deref_mut.ensures.value c.deref_mut.ensures.len c.drive-went.ensures.driven c.drive-went.ensures.full in
    subst (λ (l : List AgentModel). All (λ (p : AgentPass). p.table ≡ c.args.seated.manager.table) (c.args.seated.passes.items ++ map (λ (a : AgentModel). a.pass) l)) (sym b.back)
    (all_own m s.spans (run_size (length xs) c.args.workers) s.plans xs ys rest s.made s.left b.ride)

pub left_by-requires-clause-all : goal.left_by-requires-clause-all
left_by-requires-clause-all g c =
    let m = c.args.seated.manager in
    let s = c.requires.seated in
    let xs = c.args.seated.agents.items in
    let ys = c.drive-went.new.agents in
    let rest = c.args.seated.passes.items in
    let b = came_back m.setting c.args.until c.args.workers c.args.seated.agents.len c.drive-went.new.operator xs c.deref_mut.result.now ys (length c.args.orders.now) c.drive-went.result
    c.deref_mut.ensures.value c.deref_mut.ensures.len c.drive-went.ensures.driven c.drive-went.ensures.full in
    subst (λ (l : List AgentModel). length c.args.seated.passes.items + length l ≡ c.args.seated.manager.setting.vehicles) (sym b.back)
    (count_left m s.spans (run_size (length xs) c.args.workers) s.plans xs ys rest s.made s.left b.ride)

pub left_by-requires-clause-operator : goal.left_by-requires-clause-operator
left_by-requires-clause-operator g c = c.drive-went.ensures.same.table ∙ ap (λ (p : AgentPass). p.table) c.requires.seated.operator

pub unreachable-requires : goal.unreachable-requires
unreachable-requires g c =
    let m = c.args.seated.manager in
    let s = c.requires.seated in
    let xs = c.args.seated.agents.items in
    let ys = c.drive-went.new.agents in
    let rest = c.args.seated.passes.items in
    let op = c.drive-went.new.operator in
    let b = came_back m.setting c.args.until c.args.workers c.args.seated.agents.len op xs c.deref_mut.result.now ys (length c.args.orders.now) c.drive-went.result
    c.deref_mut.ensures.value c.deref_mut.ensures.len c.drive-went.ensures.driven c.drive-went.ensures.full in
    let x = subst (λ (l : List AgentModel). Leaves c.args.seated.manager.setting l c.args.seated.passes.items c.drive-went.new.operator c.in_ok-drove.drove) b.back c.in_ok-drove.ensures in
    never_full m s.spans (run_size (length xs) c.args.workers) s.plans xs ys rest s.made s.left b.ride
    c.args.until op c.in_ok-drove.drove.journal.items (length c.args.orders.now) x.closed x.memory s.room
    (lent_full m.setting c.args.until c.args.workers op xs c.deref_mut.result.now ys (length c.args.orders.now) (length c.args.orders.now) c.deref_mut.ensures.value refl c.in-Err.ensures.full)

pub returns : goal.returns
returns g c =
    let m = c.args.seated.manager in
    let s = c.requires.seated in
    let xs = c.args.seated.agents.items in
    let ys = c.drive-went.new.agents in
    let rest = c.args.seated.passes.items in
    let op = c.drive-went.new.operator in
    let size = run_size (length c.args.seated.agents.items) c.args.workers in
    let h = c.in_ok-drove.drove.journal.items in
    let b = came_back m.setting c.args.until c.args.workers c.args.seated.agents.len op xs c.deref_mut.result.now ys (length c.args.orders.now) c.drive-went.result
    c.deref_mut.ensures.value c.deref_mut.ensures.len c.drive-went.ensures.driven c.drive-went.ensures.full in
    let x = subst (λ (l : List AgentModel). Leaves c.args.seated.manager.setting l c.args.seated.passes.items c.drive-went.new.operator c.in_ok-drove.drove) b.back c.in_ok-drove.ensures in
    let few : length c.drive-went.new.operator.mine ≡ length c.args.orders.now = count_orders c.drive-went.new.operator.mine c.args.orders.now c.in-Ok.ensures.given in
    let short = has_room m s.spans size s.plans xs ys rest s.made s.left b.ride op h (length c.args.orders.now) x.closed x.memory (omega arith) s.room in
    record {
      headline = λ spans plans are made.
          renamed m.setting.layout m.setting.layout m.setting.vehicles m.setting.vehicles c.args.until size size
          (map drive_told plans) c.args.orders.now h (map told_by ys) (map log_of c.in_ok-drove.drove.logs.items) refl refl refl (sym x.logs)
          (headline m c.args.until size spans plans c.args.orders.now xs ys rest op h
          (record {
            are = are;
            made = made;
            driven = lent_driven m.setting c.args.until c.args.workers op xs c.deref_mut.result.now ys c.deref_mut.ensures.value c.in-Ok.ensures.driven;
            given = c.in-Ok.ensures.given;
            number = c.drive-went.ensures.same.number ∙ ap (λ (p : AgentPass). p.number) s.operator;
            calm = all_calm m s.spans size s.plans xs ys rest s.made s.left b.ride op h x.closed x.memory short;
            idle = left_idle m s.spans size s.plans xs ys rest s.made s.left b.ride;
            closed = x.closed;
            valid = s.valid;
          }));
      fits = x.fits;
    }
