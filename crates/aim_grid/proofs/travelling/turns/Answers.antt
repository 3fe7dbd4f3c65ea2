use Rattle.std.proofs.Common.{◌≡◌, ◌+◌, List, length, subst, arith}
use Rattle.std.specs.Fork.{slice_chunk}
use denote.Param.Send.{sendable}
use Rattle.std.proofs.Crossing.{crosses}
use Rattle.aim_agents.proofs.RunsCross.{manager_sync}
use Rattle.aim_grid.specs.Models.{TravellerModel}
use Rattle.aim_grid.specs.Travels.{Travels}
use Rattle.aim_grid.proofs.Runs.{chunks_turned}
use Rattle.aim_grid.proofs.Crosses.{traveller_send}
use Rattle.aim_grid.proofs.travelling.turns.Goals as goal

pub returns : goal.returns
returns g c =
    let len : length c.for_each_chunk_mut.new.s ≡ length c.args.travellers.now = omega arith in
    chunks_turned c.args.managers.now c.args.step c.args.size c.args.travellers.now c.for_each_chunk_mut.new.s c.requires.size len
    (λ n l.
    let h = c.for_each_chunk_mut.ensures.chunks n l in
    subst (λ (xs : List TravellerModel). Travels c.args.managers.now c.args.step (c.args.step + 1) xs (slice_chunk c.for_each_chunk_mut.new.s c.args.size n)) h.argument_is
    (subst (λ (ys : List TravellerModel). Travels c.args.managers.now c.args.step (c.args.step + 1) h.argument.now ys) h.left h.call))

pub for_each_chunk_mut-requires-send-T : goal.for_each_chunk_mut-requires-send-T
for_each_chunk_mut-requires-send-T g c κs within = search (sendable, crosses, traveller_send)

pub for_each_chunk_mut-requires-sync-F : goal.for_each_chunk_mut-requires-sync-F
for_each_chunk_mut-requires-sync-F g c κs within = search (sendable, manager_sync, c.type_bounds) depth 20
