use Rattle.std.proofs.Common.{◌≡◌, ◌+◌, ◌∷◌, [], ◌++◌, length, arith}
use Rattle.std.proofs.lemmas.List.{length_push}
use Rattle.aim_grid.proofs.Openings.{seats_more, settings_more, valid_more}
use Rattle.aim_grid.proofs.making.Crossings.open.Goals as goal

pub loop-layout-preserved : goal.loop-layout-preserved
loop-layout-preserved c =
    let i = c.loop-layout.invariant in
    let m = c.in_ok-crossing.crossing.0 in
    let s = c.in_ok-crossing.crossing.1 in
    let o = c.in_ok-crossing.ensures in
    let p = c.push_reserved.ensures in
    let q = c.push_reserved-in-loop-layout.ensures in
    let ms = c.push_reserved.new.self.items in
    let n : length (c.loop-layout.yielded ++ c.in-Some.layout ∷ []) ≡ length c.loop-layout.yielded + 1 = length_push c.loop-layout.yielded c.in-Some.layout in
    record {
      count = omega (arith, p.len, i.count, n);
      as_many = omega (arith, q.len, i.as_many, n);
      room = omega (arith, p.capacity, i.room);
      as_much = omega (arith, q.capacity, i.as_much);
      settings = settings_more c.loop-layout.managers.items ms m c.args.vehicles c.loop-layout.yielded c.in-Some.layout p.items i.settings o.setting;
      valid = valid_more c.loop-layout.managers.items ms m p.items i.valid o.valid;
      seats = seats_more c.loop-layout.managers.items ms m c.loop-layout.all.items c.push_reserved-in-loop-layout.new.self.items s p.items q.items i.seats o.seats;
    }
