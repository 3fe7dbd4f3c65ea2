use Rattle.std.proofs.Common.{Ok}
use Rattle.aim_line_session.proofs.SessionLemmas.{stands_on}
use Rattle.aim_line_session.proofs.sessions.LineSession.take.Goals as goal

pub invariant_of-self : goal.invariant_of-self
invariant_of-self g c = let st = c.self.invariant in stands_on st.0 (Ok c.args.line.now) c.self.inside.progress _ _ st.1 (c.take.ensures st.0 st.1)
