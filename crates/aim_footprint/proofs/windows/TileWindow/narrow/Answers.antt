use Rattle.std.proofs.Common.{arith, ◌∙◌}
use Rattle.aim_footprint.proofs.UnderLemmas.{under_left}
use Rattle.aim_footprint.proofs.windows.TileWindow.narrow.Goals as goal

pub returns-clause-window : goal.returns-clause-window
returns-clause-window c =
    let w = c.args.self.now in
    let i = c.requires.window in
    record {
      order = omega arith;
      within = i.within;
      shows = λ r k rl kl. let e = i.shows r k rl kl in c.leave.ensures r k rl kl ∙ rw (e) (under_left c.args.rects.now w.low w.next r k c.requires.steady (omega arith) i.within);
    }
