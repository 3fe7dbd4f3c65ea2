use Rattle.std.proofs.Common.{◌∙◌, ap}
use Rattle.aim_sessions.specs.Distances.{distances_with}
use Rattle.aim_book.proofs.DistanceLemmas.{distances_past}
use Rattle.aim_book.proofs.desks.Desk.keep_distance.Goals as goal

pub returns-then-params-ge16-clause-distances : goal.returns-then-params-ge16-clause-distances
returns-then-params-ge16-clause-distances g c =
    distances_past c.args.self.now.distances c.args.self.now.reservations.table.current c.args.reply.now c.in-Some.params c.requires c.if-params-ge16.true
    ∙ ap (λ o. distances_with c.args.self.now.distances c.args.self.now.reservations.table.current c.args.reply.now o) c.in-Some.ensures
