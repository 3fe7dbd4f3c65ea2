use Rattle.std.proofs.Common.{[], sym, ap, ◌∙◌, List}
use Rattle.aim_shards.specs.Ruled.{opening_view}
use Rattle.aim_shards.specs.Sets.{Quarters}
use Rattle.aim_shards.proofs.opening.seated.Goals as goal

pub seat_all-requires-clause-root : goal.seat_all-requires-clause-root
seat_all-requires-clause-root c = (let e = c.in_ok-desk.ensures in e.seat.1 ∙ ap (λ (s : List Quarters). (opening_view s c.args.numbers.now.items c.args.calls, [])) (sym e.key.0))

pub laid-requires-clause-distinct : goal.laid-requires-clause-distinct
laid-requires-clause-distinct c = c.requires.distinct
