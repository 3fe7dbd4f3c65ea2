use Rattle.std.proofs.Common.{◌≡◌, length, subst, arith}
use Rattle.std.specs.Fork.{slice_chunk}
use Rattle.aim_agents.specs.Runs.{Ran}
use Rattle.aim_agents.proofs.RunLaws.{chunks_went, whole_went}
use denote.Param.Send.{sendable}
use Rattle.std.proofs.Crossing.{crosses}
use Rattle.aim_agents.proofs.Crosses.{manager_sync}
use Rattle.aim_agents.proofs.RunsCross.{agent_send}
use Rattle.aim_agents.proofs.steps.turns.Goals as goal

pub returns : goal.returns
returns g c =
    let len : length c.for_each_chunk_mut.new.s ≡ length c.args.agents.now = omega arith in
    chunks_went c.args.manager.now.setting c.args.step c.args.size c.args.agents.now c.for_each_chunk_mut.new.s c.requires.size len
    (λ n l.
    let h = c.for_each_chunk_mut.ensures.chunks n l in
    subst (λ xs. Ran c.args.manager.now.setting c.args.step xs (slice_chunk c.for_each_chunk_mut.new.s c.args.size n)) h.argument_is
    (subst (λ ys. Ran c.args.manager.now.setting c.args.step h.argument.now ys) h.left h.call))

pub returns-then-not-are_worth_threads : goal.returns-then-not-are_worth_threads
returns-then-not-are_worth_threads g c = whole_went c.args.manager.now.setting c.args.step c.args.size c.args.agents.now c.run_turns.new.agents c.run_turns.ensures

pub for_each_chunk_mut-requires-send-T : goal.for_each_chunk_mut-requires-send-T
for_each_chunk_mut-requires-send-T g c κs within = search (sendable, crosses, agent_send)

pub for_each_chunk_mut-requires-sync-F : goal.for_each_chunk_mut-requires-sync-F
for_each_chunk_mut-requires-sync-F g c κs within = search (sendable, manager_sync, c.type_bounds) depth 20
