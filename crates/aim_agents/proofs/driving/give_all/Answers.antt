use Rattle.std.proofs.Common.{◌≡◌, ◌<◌, ◌≤◌, ◌∷◌, ◌++◌, [], length, map, get_or, refl, ap, ◌∙◌, arith}
use Rattle.aim_messages.specs.declared.entries.Act.TheVariants as act
use Rattle.aim_messages.specs.declared.entries.Order.TheVariants as order
use Rattle.aim_messages.specs.declared.entries.Entry.{Entry}
use Rattle.aim_agents.proofs.Passes.{extends_by, mine_is}
use Rattle.aim_turnstile.specs.Models.{IsSamePass}
use Rattle.aim_agents.specs.Rounds.{run_size}
use Rattle.aim_agents.specs.Driven.{Driven}
use Rattle.aim_driver.specs.declared.orders.Ordered.{Ordered}
use Rattle.aim_agents.specs.Orders.{order_of}
use Rattle.aim_agents.proofs.DriveLaws.{agents_of, driven_begin, driven_order, driven_rounds, logs_first, logs_of, pass_of, same_then}
use Rattle.aim_agents.proofs.OrderLaws.{given_all, given_count, given_more, on_err, reached_first, reached_next}
use Rattle.aim_agents.proofs.driving.give_all.Goals as goal

abbrev none : Ordered
none = record { moment = 0; order = order.Switch 0 }

pub loop-ordered-init : goal.loop-ordered-init
loop-ordered-init g c = record {
  same = record { table = refl; setting = refl; number = refl };
  driven = driven_begin c.args.manager.now.setting c.args.manager.now (run_size (length c.args.agents.now) c.args.workers) c.args.operator.now c.args.agents.now c.requires.new_operator.0 c.requires.new_operator.1 c.requires.agents;
  given = ap (map order_of) c.requires.new_operator.1;
  operator = c.requires.operator;
  own = c.requires.agents;
  last = logs_first c.args.agents.now c.requires.new_agents;
  reached = λ until are. reached_first until c.args.orders.now;
}

pub give-requires-clause-steps : goal.give-requires-clause-steps
give-requires-clause-steps g c κs within =
    let i = c.loop-ordered.invariant in
    let at = c.loop-ordered.ordered-index in
    let ahead = (i.reached c.requires.orders.0 c.requires.orders.1).ahead at none (omega arith) c.loop-ordered-test.true in
    let below = c.requires.orders.1.below at none c.loop-ordered-test.true in
    (ahead, omega (arith, below, c.requires.orders.2))

pub give-requires-clause-number : goal.give-requires-clause-number
give-requires-clause-number g c κs within = c.loop-ordered.invariant.same.number ∙ c.requires.number

pub give-requires-clause-order : goal.give-requires-clause-order
give-requires-clause-order g c κs within = c.requires.orders.1.known c.loop-ordered.ordered-index none c.loop-ordered-test.true

pub loop-ordered-preserved : goal.loop-ordered-preserved
loop-ordered-preserved g c =
    let set = c.args.manager.now.setting in
    let i = c.loop-ordered.invariant in
    let at = c.loop-ordered.ordered-index in
    let x = get_or c.args.orders.now at none in
    let le : c.loop-ordered.step ≤ x.moment = (i.reached c.requires.orders.0 c.requires.orders.1).ahead at none (omega arith) c.loop-ordered-test.true in
    let given = c.in_ok-give.ensures in
    let mid = given.mid in
    let new = c.give.new.operator in
    let e : Entry = record { caller = mid.number; moment = x.moment; act = act.Order x.order; reply = c.in_ok-give.field-0 } in
    let call = extends_by set x.moment (act.Order x.order) c.in_ok-give.field-0 mid new given.same given.served in
    let size = run_size (length c.args.agents.now) c.args.workers in
    let same : IsSamePass c.args.operator.now new =
    same_then c.args.operator.now mid new (same_then c.args.operator.now c.loop-ordered.operator mid i.same given.rounds.same) given.same in
    let driven : Driven set x.moment size new c.args.agents.now c.give.new.agents =
    driven_order set x.moment size mid new e c.args.agents.now c.give.new.agents call refl
    (driven_rounds set c.loop-ordered.step x.moment size (run_size (length c.loop-ordered.agents) c.args.workers)
    c.loop-ordered.operator mid c.args.agents.now c.loop-ordered.agents c.give.new.agents le (ap (λ n. run_size n c.args.workers) i.driven.len) i.driven given.rounds) in
    record {
      same = same;
      driven = driven;
      operator = pass_of c.args.manager.now c.args.operator.now new same c.requires.operator;
      own = agents_of set c.args.manager.now x.moment size new c.args.agents.now c.give.new.agents driven c.requires.agents;
      last = logs_of set x.moment size new c.args.agents.now c.give.new.agents driven c.requires.new_agents;
      given = given_more c.loop-ordered.operator.mine new.mine c.args.orders.now at none
          e c.loop-ordered-test.true i.given
          (mine_is set e mid new call ∙ ap (λ l. l ++ e ∷ []) given.rounds.operator.mine) refl;
      reached = λ until are. reached_next c.args.manager.now.setting.layout c.args.manager.now.setting.vehicles until at c.args.orders.now none are c.loop-ordered-test.true;
    }

pub returns-in_err-give-clause-full : goal.returns-in_err-give-clause-full
returns-in_err-give-clause-full g c =
    let set = c.args.manager.now.setting in
    let i = c.loop-ordered.invariant in
    let at = c.loop-ordered.ordered-index in
    let x = get_or c.args.orders.now at none in
    let le : c.loop-ordered.step ≤ x.moment = (i.reached c.requires.orders.0 c.requires.orders.1).ahead at none (omega arith) c.loop-ordered-test.true in
    let lt : at < length c.args.orders.now = c.loop-ordered-test.true in
    let count : length c.loop-ordered.operator.mine ≡ at = given_count c.loop-ordered.operator.mine c.args.orders.now at (omega arith) i.given in
    let given = c.in_err-give.ensures in
    let mine : length c.give.new.operator.mine ≡ length c.loop-ordered.operator.mine = ap (λ l. length l) (given.served.mine ∙ given.rounds.operator.mine) in
    on_err _ c.from_residual.result (λ until. record {
      step = x.moment;
      before = given.mid;
      driven = driven_rounds set c.loop-ordered.step x.moment (run_size (length c.args.agents.now) c.args.workers) (run_size (length c.loop-ordered.agents) c.args.workers)
          c.loop-ordered.operator given.mid c.args.agents.now c.loop-ordered.agents c.give.new.agents le (ap (λ n. run_size n c.args.workers) i.driven.len) i.driven given.rounds;
      full = given.served.full;
      few = omega arith;
    })

pub returns-in_err-give-clause-same : goal.returns-in_err-give-clause-same
returns-in_err-give-clause-same g c =
    let given = c.in_err-give.ensures in
    same_then c.args.operator.now given.mid c.give.new.operator
    (same_then c.args.operator.now c.loop-ordered.operator given.mid c.loop-ordered.invariant.same given.rounds.same) given.same

pub returns-clause-given : goal.returns-clause-given
returns-clause-given g c =
    let i = c.loop-ordered.invariant in record {
      driven = i.driven;
      carried = given_all c.loop-ordered.operator.mine c.loop-ordered.operator.mine c.args.orders.now c.loop-ordered.ordered-index refl i.given c.loop-ordered-test.false;
      below = λ until are. (i.reached until are).below;
    }
