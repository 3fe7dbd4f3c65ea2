use Rattle.std.proofs.Common.{arith, ◌∙◌, refl, ◌-◌}
use Rattle.aim_footprint.proofs.UnderLemmas.{under_more, under_at}
use Rattle.aim_footprint.proofs.windows.TileWindow.widen.Goals as goal

pub renew-requires-clause-set : goal.renew-requires-clause-set
renew-requires-clause-set c = λ r k rl kl h.
    let w = c.args.self.now in
    let i = c.requires.window in
    let o = i.order in
    i.shows r k rl kl ∙ under_at c.args.rects.now w.low w.next (w.next - 1) r k (omega arith) (omega arith) (omega arith) h

pub returns-clause-window : goal.returns-clause-window
returns-clause-window c =
    let w = c.args.self.now in
    let i = c.requires.window in
    let o = i.order in
    record {
      order = omega arith;
      within = omega arith;
      shows = λ r k rl kl. c.renew.ensures r k rl kl ∙ rw (i.shows r k rl kl, under_more c.args.rects.now w.low w.next r k (omega arith) c.requires.more) refl;
    }
