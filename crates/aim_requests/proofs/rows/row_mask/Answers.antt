use Rattle.std.proofs.Common.{refl, ◌∙◌}
use Rattle.aim_requests.proofs.BorderLemmas.{chosen}
use Rattle.aim_requests.proofs.rows.row_mask.Goals as goal

pub returns : goal.returns
returns c = λ k l. chosen c.args.inner c.args.outer c.border-edge.result k c.border-edge.type_inv l ∙ rw (c.border-edge.ensures k l) refl
