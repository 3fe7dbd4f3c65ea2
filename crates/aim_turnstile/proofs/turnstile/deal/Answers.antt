use Rattle.std.proofs.Common.{map, ap, ◌∙◌, arith}
use Rattle.std.proofs.lemmas.List.{take_all}
use Rattle.aim_turnstile.proofs.Deals.{root_dealt, seat_dealt, new_sits, passes_dealt}
use Rattle.aim_turnstile.proofs.Seats.{deals_as}
use Rattle.aim_turnstile.proofs.turnstile.deal.Goals as goal

pub split_seat-seat-requires : goal.split_seat-seat-requires
split_seat-seat-requires g c =
    let i = c.loop-number.invariant in
    (i.desk, omega (arith, c.requires.desk.1), deals_as _ _ _ _ c.args.numbers.now c.loop-number.number-index _ c.loop-number-test.true i.root)

pub invariant_of-push_reserved : goal.invariant_of-push_reserved
invariant_of-push_reserved g c =
    new_sits _ _ _ _ _ (seat_dealt _ _ _ _ _ c.loop-number-test.true c.loop-number.invariant.root c.split_seat-seat.ensures.4)

pub push_reserved-requires : goal.push_reserved-requires
push_reserved-requires g c =
    let i = c.loop-number.invariant in
    let next = c.loop-number-test.true in
    let count = i.count in
    let room = i.room in
    omega (arith, next, count, room)

pub loop-number-preserved : goal.loop-number-preserved
loop-number-preserved g c =
    let i = c.loop-number.invariant in
    let next = c.loop-number-test.true in
    let s = c.split_seat-seat.ensures in
    let p = c.push_reserved.ensures in
    record {
      desk = s.0 ∙ i.desk;
      root = root_dealt _ _ _ _ _ next i.root s.2;
      passes = passes_dealt _ c.loop-number.number-index _ _ _ _ next i.passes (s.3 ∙ i.desk) (seat_dealt _ _ _ _ _ next i.root s.4) p.items;
      count = let len = p.len in let count = i.count in omega (arith, len, count);
      room = let room = i.room in let same = p.capacity in omega (arith, room, same);
    }

pub returns : goal.returns
returns g c = c.loop-number.invariant.passes ∙ ap (map _) (take_all _ _ c.loop-number-test.false)
