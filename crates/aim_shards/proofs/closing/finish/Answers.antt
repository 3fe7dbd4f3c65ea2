use Rattle.std.proofs.Common.{◌∙◌, arith}
use Rattle.aim_shards.proofs.Endings.{closes, still_at}
use Rattle.aim_shards.proofs.Emptied.{all_taken}
use Rattle.aim_shards.proofs.closing.finish.Goals as goal

pub take_entries-first-requires-clause-lies : goal.take_entries-first-requires-clause-lies
take_entries-first-requires-clause-lies c =
    let r = c.requires.root in
    let f = closes _ _ _ _ _ _ r.0 _ r.1 r.2 c.close_with-closed.ensures.values.2 in
    (_, f.2 0 (omega arith))

pub take_entries-second-requires-clause-lies : goal.take_entries-second-requires-clause-lies
take_entries-second-requires-clause-lies c =
    let r = c.requires.root in
    let f = closes _ _ _ _ _ _ r.0 _ r.1 r.2 c.close_with-closed.ensures.values.2 in
    (_, still_at c.take_entries-first.ensures.items (f.2 1 (omega arith)))

pub take_entries-third-requires-clause-lies : goal.take_entries-third-requires-clause-lies
take_entries-third-requires-clause-lies c =
    let r = c.requires.root in
    let f = closes _ _ _ _ _ _ r.0 _ r.1 r.2 c.close_with-closed.ensures.values.2 in
    (_, still_at (c.take_entries-second.ensures.items ∙ c.take_entries-first.ensures.items) (f.2 2 (omega arith)))

pub take_entries-fourth-requires-clause-lies : goal.take_entries-fourth-requires-clause-lies
take_entries-fourth-requires-clause-lies c =
    let r = c.requires.root in
    let f = closes _ _ _ _ _ _ r.0 _ r.1 r.2 c.close_with-closed.ensures.values.2 in
    (_, still_at (c.take_entries-third.ensures.items ∙ (c.take_entries-second.ensures.items ∙ c.take_entries-first.ensures.items)) (f.2 3 (omega arith)))

pub returns : goal.returns
returns c ps had count =
    let f = closes _ _ _ _ _ _ ps _ had count c.close_with-closed.ensures.values.2 in (
      f.0,
      record {
        lawful = f.1.0;
        made = f.1.1;
        lists = record {
          first_is = c.take_entries-first.ensures.entries _ (f.2 0 (omega arith));
          second_is = c.take_entries-second.ensures.entries _ (still_at c.take_entries-first.ensures.items (f.2 1 (omega arith)));
          third_is = c.take_entries-third.ensures.entries _ (still_at (c.take_entries-second.ensures.items ∙ c.take_entries-first.ensures.items) (f.2 2 (omega arith)));
          fourth_is = c.take_entries-fourth.ensures.entries _ (still_at (c.take_entries-third.ensures.items ∙ (c.take_entries-second.ensures.items ∙ c.take_entries-first.ensures.items)) (f.2 3 (omega arith)));
        };
      },
    )

pub free-requires : goal.free-requires
free-requires c =
    let a = c.take_entries-first.ensures.filled in
    let b = c.take_entries-second.ensures.filled in
    let d = c.take_entries-third.ensures.filled in
    let e = c.take_entries-fourth.ensures.filled in all_taken _ _ _ _ _ a.0 b.0 d.0 e.0 (e.1 ∙ (d.1 ∙ (b.1 ∙ (a.1 ∙ (c.close_with-closed.ensures.counts.1 ∙ c.requires.desk.1)))))
