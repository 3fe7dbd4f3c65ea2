use Rattle.std.proofs.Common.{length, map, ap, ◌∙◌}
use Rattle.aim_agents.specs.Rounds.{run_size}
use Rattle.aim_agents.specs.Orders.{order_of}
use Rattle.aim_agents.proofs.DriveLaws.{agents_of, driven_rounds, logs_of, pass_of, same_then}
use Rattle.aim_agents.proofs.OrderLaws.{on_err}
use Rattle.aim_agents.proofs.driving.drive.Goals as goal

pub give_all-requires-clause-orders : goal.give_all-requires-clause-orders
give_all-requires-clause-orders g c κs within = (c.args.until, c.requires.orders, c.requires.most)

pub rounds-requires-clause-steps : goal.rounds-requires-clause-steps
rounds-requires-clause-steps g c κs within = c.in_ok-step.ensures.given.below c.args.until c.requires.orders

pub rounds-requires-clause-operator : goal.rounds-requires-clause-operator
rounds-requires-clause-operator g c κs within = pass_of c.args.manager.now c.args.operator.now c.give_all.new.operator c.give_all.ensures.same c.requires.operator

pub rounds-requires-clause-agents : goal.rounds-requires-clause-agents
rounds-requires-clause-agents g c κs within =
    let given = c.in_ok-step.ensures.given in
    agents_of c.args.manager.now.setting c.args.manager.now c.in_ok-step.step (run_size (length c.args.agents.now) c.args.workers) c.give_all.new.operator c.args.agents.now c.give_all.new.agents given.driven c.requires.agents

pub rounds-requires-clause-last : goal.rounds-requires-clause-last
rounds-requires-clause-last g c κs within =
    let given = c.in_ok-step.ensures.given in
    logs_of c.args.manager.now.setting c.in_ok-step.step (run_size (length c.args.agents.now) c.args.workers) c.give_all.new.operator c.args.agents.now c.give_all.new.agents given.driven c.requires.new_agents

pub returns-in_err-step-clause-full : goal.returns-in_err-step-clause-full
returns-in_err-step-clause-full g c = on_err _ c.from_residual.result (c.in_err-step.ensures.full c.args.until)

pub returns-clause-same : goal.returns-clause-same
returns-clause-same g c = same_then c.args.operator.now c.give_all.new.operator c.rounds.new.operator c.give_all.ensures.same c.rounds.ensures.same

pub returns-clause-driven : goal.returns-clause-driven
returns-clause-driven g c =
    let given = c.in_ok-step.ensures.given in
    driven_rounds c.args.manager.now.setting c.in_ok-step.step c.args.until (run_size (length c.args.agents.now) c.args.workers) (run_size (length c.give_all.new.agents) c.args.workers)
    c.give_all.new.operator c.rounds.new.operator c.args.agents.now c.give_all.new.agents c.rounds.new.agents (given.below c.args.until c.requires.orders) (ap (λ n. run_size n c.args.workers) given.driven.len) given.driven c.rounds.ensures

pub returns-clause-given : goal.returns-clause-given
returns-clause-given g c = ap (map order_of) c.rounds.ensures.operator.mine ∙ c.in_ok-step.ensures.given.carried
