use Rattle.std.proofs.Common.{refl, subst, sym, ◌≢◌, AllPairs}
use Rattle.aim_manager.proofs.Callers.{callers_distinct, callers_some}
use Rattle.aim_manager.proofs.manager.turned.Goals as goal

pub open-requires-clause-distinct : goal.open-requires-clause-distinct
open-requires-clause-distinct c = subst (AllPairs (λ a b. a ≢ b)) (sym c.requires.numbers) (callers_distinct _ c.requires.most)

pub open-requires-clause-some : goal.open-requires-clause-some
open-requires-clause-some c = callers_some c.args.numbers.now _ c.args.numbers.now c.requires.numbers refl
