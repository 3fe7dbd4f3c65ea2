use Rattle.std.proofs.Common.{ap, ◌∙◌, refl, arith, subst, sym, ◌<◌}
use Rattle.aim_mail.proofs.Deals.{answered, lawful_put, same_slips, serves_of, slip_at}
use Rattle.aim_mail.proofs.server.answer.Goals as goal

pub put-requires : goal.put-requires
put-requires g c =
    let s = c.requires.stands in
    let at = slip_at _ _ _ _ _ _ s.2 c.requires.from c.index_mut.ensures.value in
    let e = c.serve-answer.ensures in
    let sheets = e.sheets in
    let kept = c.kept-kept.ensures in
    let none = ap (λ z. z.count) c.empty-sheets.ensures in
    record {
      lawful = lawful_put _ c.serve-answer.new.self _ _ _ c.args.from c.args.moment c.args.prepared _ _ c.sheets_are_those_of_own_entries.ensures.own s.2 at record {
        to = refl;
        sheets = e.pool ∙ ap (λ z. z.room) c.empty-sheets.ensures ∙ c.spans_of.ensures ∙ ap (λ i. i.grid.spans) c.layout.ensures;
        count = omega (arith, sheets, kept, none);
        kept = kept;
        table = refl;
        key = refl;
        note = s.1;
        serves = serves_of _ _ c.args.from c.args.moment c.args.prepared _ e.entry e.err e.full e.legal;
      };
    }

pub returns-clause-slips : goal.returns-clause-slips
returns-clause-slips g c =
    let s = c.requires.stands in
    let at = slip_at _ _ _ _ _ _ s.2 c.requires.from c.index_mut.ensures.value in
    let n = s.2.count in
    rw c.put.ensures (same_slips _ _ _ _ at (omega (arith, n, c.requires.from)) record { table = refl; key = refl; ended = λ z. z })

pub returns-clause-book : goal.returns-clause-book
returns-clause-book g c =
    (serves_of _ _ c.args.from c.args.moment c.args.prepared _ c.serve-answer.ensures.entry c.serve-answer.ensures.err c.serve-answer.ensures.full c.serve-answer.ensures.legal).same

pub returns-clause-stands : goal.returns-clause-stands
returns-clause-stands g c =
    let s = c.requires.stands in
    let at = slip_at _ _ _ _ _ _ s.2 c.requires.from c.index_mut.ensures.value in
    let e = c.serve-answer.ensures in
    let sheets = e.sheets in
    let kept = c.kept-kept.ensures in
    let none = ap (λ z. z.count) c.empty-sheets.ensures in
    rw c.put.ensures
    (answered _ c.serve-answer.new.self _ s.0 _ c.args.from c.args.moment c.args.prepared c.index_mut.result.now _ c.sheets_are_those_of_own_entries.ensures.own c.sheets_are_those_of_own_entries.ensures.other s.2 c.requires.from at record {
      to = refl;
      sheets = e.pool ∙ ap (λ z. z.room) c.empty-sheets.ensures ∙ c.spans_of.ensures ∙ ap (λ i. i.grid.spans) c.layout.ensures;
      count = omega (arith, sheets, kept, none);
      kept = kept;
      table = refl;
      key = refl;
      note = s.1;
      serves = serves_of _ _ c.args.from c.args.moment c.args.prepared _ e.entry e.err e.full e.legal;
    })

pub kept-kept-requires : goal.kept-kept-requires
kept-kept-requires g c =
    let e = c.serve-answer.ensures in
    subst (λ n. c.args.from < n) (sym (serves_of _ _ c.args.from c.args.moment c.args.prepared _ e.entry e.err e.full e.legal).same.vehicles) c.requires.from
