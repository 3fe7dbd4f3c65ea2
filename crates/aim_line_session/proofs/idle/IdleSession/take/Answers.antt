use Rattle.std.proofs.Common.{Ok, sym, subst}
use Rattle.aim_line_session.specs.declared.progress.Progress.{Progress}
use Rattle.aim_line_session.specs.Idle.{joined}
use Rattle.aim_line_session.specs.Sessions.{Comes, Stands}
use Rattle.aim_line_session.proofs.SessionLemmas.{stands_on}
use Rattle.aim_line_session.proofs.idle.IdleSession.take.Goals as goal

pub invariant_of-result : goal.invariant_of-result
invariant_of-result c =
    let st = c.self.invariant in let took = c.taken-progress in
    stands_on st.0 (Ok c.args.line.now) (joined c.self.inside.progress) (joined took.result.0) took.result.1 st.1 (took.ensures st.0 st.1)

pub returns : goal.returns
returns c before st =
    let took = c.taken-progress in
    subst (λ (s : Progress (Unit {0})). Comes before (Ok c.args.line.now) s (joined took.result.0) took.result.1) c.self.view_is
    (took.ensures before (subst (λ (s : Progress (Unit {0})). Stands before s) (sym c.self.view_is) st))
