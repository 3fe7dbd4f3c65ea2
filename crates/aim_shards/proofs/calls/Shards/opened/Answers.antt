use Rattle.std.proofs.Common.{refl}
use Rattle.aim_shards.specs.Cuts.{half_of}
use Rattle.aim_shards.proofs.Cutting.{within_cut}
use Rattle.aim_shards.proofs.calls.Shards.opened.Goals as goal

pub seated-requires-clause-within : goal.seated-requires-clause-within
seated-requires-clause-within c = within_cut (half_of c.args.n) c.args.n c.args.horizon c.args.sets.items c.args.sets.items c.in_ok-quarters.quarters.items refl c.in_ok-quarters.ensures c.requires.grid

pub seated-requires-clause-distinct : goal.seated-requires-clause-distinct
seated-requires-clause-distinct c = c.requires.distinct
