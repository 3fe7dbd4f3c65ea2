use Rattle.std.proofs.Common.{◌∙◌, sym}
use Rattle.aim_requests.proofs.MemoLemmas.{kept_there}
use Rattle.aim_requests.proofs.memos.Memo.find.Goals as goal

pub returns-then-are_same_stations-clause-prepared : goal.returns-then-are_same_stations-clause-prepared
returns-then-are_same_stations-clause-prepared c =
    rw (sym c.self.view_is) (kept_there c.args.layout.now _ _ _ _ _ _ _ c.args.params.now c.self.invariant.0 c.in_ok-from.ensures
    (c.if-self-version.true ∙ c.version.ensures.version)
    (c.is_same_grid.ensures c.if-is_same_grid.true ∙ c.grid.ensures.grid ∙ c.ground-ground.ensures.grid)
    (c.are_same_times.ensures c.if-are_same_times.true ∙ c.times.ensures.times ∙ c.ground-ground.ensures.times)
    (sym c.in_ok-path.ensures) (sym c.deref.ensures.value ∙ c.are_same_stations.ensures c.if-are_same_stations.true ∙ c.stations.ensures.stations))
