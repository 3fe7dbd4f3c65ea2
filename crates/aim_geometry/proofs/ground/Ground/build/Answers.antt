use Rattle.std.proofs.Common.{sym, ◌∙◌}
use Rattle.aim_geometry.proofs.SiteLemmas.{IsGrid-tests, IsTimes-tests}
use Rattle.aim_geometry.proofs.ground.Ground.build.Goals as goal

pub invariant_of-result : goal.invariant_of-result
invariant_of-result c = record {
  grid = IsGrid-tests c.args.grid (sym c.is_bad.ensures ∙ c.if-is_bad.false);
  times = IsTimes-tests c.args.times (sym c.has_bad_buffers.ensures ∙ c.if-has_bad_buffers.false) (sym c.has_bad_times.ensures ∙ c.if-has_bad_times.false);
}
