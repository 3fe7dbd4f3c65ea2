use Rattle.std.proofs.Common.{refl, sym, ◌∙◌, arith}
use Rattle.aim_mail.proofs.Deals.{ended_at, same_book_trans, same_intake_trans, same_slips_trans, still_made}
use Rattle.aim_mail.proofs.server.serve_until.Goals as goal

pub loop-init : goal.loop-init
loop-init g c = record {
  stands = c.requires.stands;
  book = record { layout = refl; vehicles = refl; room = refl };
  intake = record { table = refl; key = refl; setting = refl; made = refl; known = refl };
  slips = (refl, λ p a at. (a, at, record { table = refl; key = refl; ended = λ e. e }));
}

pub serve_one-requires-clause-made : goal.serve_one-requires-clause-made
serve_one-requires-clause-made g c = still_made _ _ _ _ c.loop.invariant.book c.loop.invariant.intake c.requires.made

pub loop-preserved : goal.loop-preserved
loop-preserved g c =
    let i = c.loop.invariant in
    let e = c.serve_one.ensures in record {
      stands = e.stands;
      book = same_book_trans _ _ _ i.book e.book;
      intake = same_intake_trans _ _ _ i.intake e.intake;
      slips = same_slips_trans _ _ _ i.slips e.slips;
    }

pub returns-then-has_ended-clause-ended : goal.returns-then-has_ended-clause-ended
returns-then-has_ended-clause-ended g c =
    let n = c.loop.invariant.slips.0 in
    ended_at c.loop.slips.items c.args.client c.index.result.now (omega (arith, n, c.requires.client)) c.index.ensures (sym c.has_ended.ensures ∙ c.if-has_ended.true)
