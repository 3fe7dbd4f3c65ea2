use Rattle.std.proofs.Common.{subst, sym}
use Rattle.aim_shards.specs.Grid.{AreOnGrid}
use Rattle.aim_shards_command.specs.declared.script.ClaimTerms.{ClaimTerms}
use Rattle.aim_shards_command.proofs.Runs.{opened_is}
use Rattle.aim_shards_command.proofs.running.open.Goals as goal

pub open-requires-clause-grid : goal.open-requires-clause-grid
open-requires-clause-grid c =
    let are = c.in_ok-sets.ensures in
    subst (λ (u : ClaimTerms). AreOnGrid u.n u.horizon c.in_ok-sets.sets.items) (sym c.terms-terms.ensures.terms) are.grid

pub returns-in-Ok : goal.returns-in-Ok
returns-in-Ok c =
    let e = c.in-Ok.ensures in
    opened_is c.args.script.now c.terms-terms.result c.in_ok-sets.sets.items c.in-Ok.opened c.terms-terms.ensures.terms c.in_ok-sets.ensures e.shards.0 e.shards.1 e.shards.2 e.shards.3 e.passes
