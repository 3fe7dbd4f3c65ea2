use Rattle.std.proofs.Common.{List, Err, Ok, Some, refl, sym, ap, ◌∙◌, subst}
use Rattle.aim_messages.specs.declared.script.Line.{Line}
use Rattle.aim_script.specs.Headers.{Stands}
use Rattle.aim_script.specs.Versions.{version_number}
use Rattle.aim_text_session.specs.declared.outcomes.LineOutcome.TheVariants as outcome
use Rattle.aim_text_session.specs.Headings.{AreHeard, IsHeading, said}
use Rattle.aim_text_session.specs.Sessions.{InHeader}
use Rattle.aim_text_session.proofs.HeadingLemmas.{judged_read, leads, version_said}
use Rattle.aim_text_session.proofs.headings.heading_after.Goals as goal

pub header_again-requires-clause-heard : goal.header_again-requires-clause-heard
header_again-requires-clause-heard c = subst (λ (lines : List Line). AreHeard lines) (sym c.deref.ensures.value) c.requires.heard

pub returns-in-Err-read_text : goal.returns-in-Err-read_text
returns-in-Err-read_text c =
    let lines = c.args.heading.lines.items in let vehicles = c.args.heading.vehicles in let all = said lines vehicles in let words = c.args.words.now in
    let h = c.in-Ok.header in let told = c.in_header-in-Err-read_text.ensures in
    let st : Stands lines h = subst (λ (lines : List Line). Stands lines h) c.deref.ensures.value c.in-Ok.ensures in
    let version = version_said lines vehicles ∙ st.version ∙ sym (ap version_number c.version.ensures) in
    let judged = judged_read all words c.version.result (Err c.in-Err-read_text.kind) version c.in-Err-read_text.ensures.line in
    let kept : IsHeading lines vehicles (Some h) = record { heard = c.requires.heard; counted = c.requires.counted; kept = st; quiet = c.requires.quiet; over = c.requires.over } in
    leads all words (InHeader all) c.in_header-in-Err-read_text.result _ (outcome.Bad c.in-Err-read_text.kind) (InHeader all) told.reached told.outcome refl (judged, refl) kept

pub returns-in-Ok-read_text : goal.returns-in-Ok-read_text
returns-in-Ok-read_text c =
    let lines = c.args.heading.lines.items in let vehicles = c.args.heading.vehicles in let all = said lines vehicles in let words = c.args.words.now in
    let h = c.in-Ok.header in
    let st : Stands lines h = subst (λ (lines : List Line). Stands lines h) c.deref.ensures.value c.in-Ok.ensures in
    let version = version_said lines vehicles ∙ st.version ∙ sym (ap version_number c.version.ensures) in
    c.header_after.ensures words (judged_read all words c.version.result (Ok c.in-Ok-read_text.line) version c.in-Ok-read_text.ensures.line)
