use Rattle.std.proofs.Common.{◌^◌}
use Rattle.std.proofs.lemmas.Nat.{pow_pos}
use Rattle.aim_layout.proofs.ShareLemmas.{reaches}
use Rattle.aim_layout.proofs.builders.has_further.Goals as goal

pub returns : goal.returns
returns c = reaches c.args.lanes (2 ^ c.args.count) (pow_pos c.args.count)
