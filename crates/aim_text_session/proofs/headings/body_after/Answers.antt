use Rattle.aim_script.specs.Versions.{version_number}
use Rattle.std.proofs.Common.{Ok, ap, sym, ◌∙◌}
use Rattle.aim_text_session.proofs.BodyLemmas.{comes_so}
use Rattle.aim_text_session.proofs.HeadingLemmas.{judged_read}
use Rattle.aim_text_session.proofs.headings.body_after.Goals as goal

pub returns-in-Ok-clause-leads : goal.returns-in-Ok-clause-leads
returns-in-Ok-clause-leads c before st =
    let words = c.args.words.now in
    let judged = judged_read before words c.version.result (Ok c.in-Ok.line) (st.played.version ∙ sym (ap version_number c.version.ensures)) c.in-Ok.ensures.line in
    record {
      comes = rw c.outcome_of.ensures (comes_so before words c.in-Ok.line c.args.session c.take-session.result.0 c.take-session.result.1 judged (c.take-session.ensures before st));
      kept = tt;
    }
