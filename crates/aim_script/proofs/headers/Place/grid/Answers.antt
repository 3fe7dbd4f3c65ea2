use Rattle.std.proofs.Common.{sym, ◌∙◌}
use Rattle.aim_script.proofs.HeaderLemmas.{grid_taken}
use Rattle.aim_script.proofs.headers.Place.grid.Goals as goal

pub returns-else-is_bad : goal.returns-else-is_bad
returns-else-is_bad c before st =
    grid_taken before _ _ _ c.in-Grid.is (rw c.grid_of-read.ensures at (sym c.is_bad.ensures ∙ c.if-is_bad.false)) c.grid_of-read.ensures st
