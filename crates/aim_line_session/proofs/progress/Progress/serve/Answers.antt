use Rattle.std.proofs.Common.{arith, sym}
use Rattle.aim_line_session.proofs.SessionLemmas.{event_came, event_fell, event_full}
use Rattle.aim_line_session.proofs.progress.Progress.serve.Goals as goal

pub returns-in-Some : goal.returns-in-Some
returns-in-Some g c before st = event_fell before c.args.self.now _ _ _ _ c.requires.going st c.in-Some.ensures

pub returns-then-position : goal.returns-then-position
returns-then-position g c before st = event_full before c.args.self.now _ _ _ c.requires.going st (sym c.in_default.ensures) (omega (arith, c.entries-position.ensures))

pub returns : goal.returns
returns g c before st =
    let entry = c.serve-entry.ensures in
    event_came before c.args.self.now _ _ _ _ _ _ c.requires.going st (sym c.in_default.ensures) c.entries-position.ensures (entry.entry _ st.played.serves) (entry.serves _ st.played.serves) entry.next
