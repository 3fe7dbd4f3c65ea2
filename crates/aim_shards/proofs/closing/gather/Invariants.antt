use Rattle.std.proofs.Common.{◌≡◌, List, ◌++◌}
use Rattle.aim_shards.specs.Models.{PassModel}
use Rattle.aim_shards.specs.Closing.{Gathers}
use Rattle.aim_shards.proofs.closing.gather.Given as goal

abbrev pub invariant-loop-pass : goal.invariant-loop-pass
invariant-loop-pass l =
    (l.root.table_id ≡ l.initial.root.table_id) × (l.root.id ≡ l.initial.root.id)
    × ((gone : List PassModel) × (l.initial.passes.items ≡ l.passes.items ++ gone) × Gathers gone l.root.me)

abbrev pub decreases-loop-pass : goal.decreases-loop-pass
decreases-loop-pass l = goal.left-loop-pass l
