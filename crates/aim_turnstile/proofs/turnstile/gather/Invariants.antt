use Rattle.std.proofs.Common.{◌≡◌, List, ◌++◌}
use Rattle.aim_turnstile.specs.Models.{PassModel}
use Rattle.aim_turnstile.specs.Turned.{Gathers}
use Rattle.aim_turnstile.proofs.turnstile.gather.Given as goal

abbrev pub invariant-loop-pass : goal.invariant-loop-pass
invariant-loop-pass g l =
    (l.main.table_id ≡ l.initial.main.table_id) × (l.main.id ≡ l.initial.main.id)
    × ((gone : List (PassModel g.row.K-Setting.Denot g.row.K-Entry.Denot)) × (l.initial.passes.items ≡ l.passes.items ++ gone)
    × ((start : List (PassModel g.row.K-Setting.Denot g.row.K-Entry.Denot)) → Gathers (g.K.Kept.setting l.desk.shared.key.kept.value) l.desk.shared.key.numbers.value.items start l.initial.main.me
    → Gathers (g.K.Kept.setting l.desk.shared.key.kept.value) l.desk.shared.key.numbers.value.items (gone ++ start) l.main.me))

abbrev pub decreases-loop-pass : goal.decreases-loop-pass
decreases-loop-pass g l = goal.left-loop-pass g l
