use Rattle.std.proofs.Common.{refl, sym, ◌∙◌, arith}
use Rattle.aim_mail.proofs.Deals.{ended_more, run_same, same_book_trans, same_intake_trans, same_slips_trans, still_made}
use Rattle.aim_mail.proofs.server.Server.run.Goals as goal

pub serve_until-requires-clause-made : goal.serve_until-requires-clause-made
serve_until-requires-clause-made g c = still_made _ _ _ _ c.loop-client.invariant.book c.loop-client.invariant.intake (c.self.invariant.1, c.self.invariant.2)

pub loop-client-preserved : goal.loop-client-preserved
loop-client-preserved g c =
    let i = c.loop-client.invariant in
    let u = c.serve_until.ensures in
    let n = i.slips.0 in
    record {
      stands = u.stands;
      book = same_book_trans _ _ _ i.book u.book;
      intake = same_intake_trans _ _ _ i.intake u.intake;
      slips = same_slips_trans _ _ _ i.slips u.slips;
      ended = ended_more _ _ _ (omega (arith, n, c.loop-client-test.true, c.len-count.ensures)) u.slips i.ended u.ended;
    }

pub invariant_of-result : goal.invariant_of-result
invariant_of-result g c =
    let i = c.loop-client.invariant in
    let v = i.book.vehicles in
    let n = i.slips.0 in (
      i.stands,
      i.intake.made ∙ c.self.invariant.1 ∙ sym v,
      i.intake.known ∙ c.self.invariant.3,
      omega (arith, v, c.self.invariant.4),
      λ p less. i.ended p (omega (arith, less, n, c.len-count.ensures, c.loop-client-test.false)),
    )

pub returns : goal.returns
returns g c =
    let i = c.loop-client.invariant in
    run_same _ _ _ _ _ _ i.book i.intake i.slips ∙ c.self.view_is

pub loop-client-init : goal.loop-client-init
loop-client-init g c = record {
  stands = c.self.invariant.0;
  book = record { layout = refl; vehicles = refl; room = refl };
  intake = record { table = refl; key = refl; setting = refl; made = refl; known = refl };
  slips = (refl, λ p a at. (a, at, record { table = refl; key = refl; ended = λ e. e }));
  ended = λ p less. absurd (omega (arith, less));
}
