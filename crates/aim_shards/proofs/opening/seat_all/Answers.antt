use Rattle.std.proofs.Common.{◌≡◌, ◌<◌, ◌≤◌, [], length, map, get_or, refl, sym, ap, ◌∙◌, arith}
use Rattle.std.specs.Prelude.{vec_capacity}
use Rattle.std.proofs.lemmas.List.{take_all}
use Rattle.aim_shards.specs.Models.{new_pass}
use Rattle.aim_shards.proofs.Endings.{all_front, all_middle}
use Rattle.aim_shards.proofs.Keeping.{keeps_new, passes_more}
use Rattle.aim_shards.proofs.Seats.{deals_as, root_dealt, seat_dealt}
use Rattle.aim_shards.proofs.opening.seat_all.Goals as goal

pub split_seat-seat-requires : goal.split_seat-seat-requires
split_seat-seat-requires c = (let i = c.loop-number.invariant in (i.desk, omega (arith, c.requires.desk.1), deals_as _ _ _ _ _ c.args.numbers.now.items c.loop-number.number-index _ (omega (arith, c.loop-number-test.true)) i.root))

pub invariant_of-push_reserved : goal.invariant_of-push_reserved
invariant_of-push_reserved c =
    let i = c.loop-number.invariant in
    rw c.deref-number-items.ensures.value
    (keeps_new _ _ _ _ _ _ (seat_dealt [] _ c.args.numbers.now.items c.loop-number.number-index _ _ (omega (arith, c.loop-number-test.true)) i.root c.split_seat-seat.ensures.4)
    (all_middle (λ s. (s.items ≡ []) × (c.args.calls ≤ vec_capacity s)) _ _ [] _ i.standings c.in-Some.ensures.items))

pub loop-number-preserved : goal.loop-number-preserved
loop-number-preserved c =
    let i = c.loop-number.invariant in
    let numbers = c.args.numbers.now.items in
    let key = c.args.desk.now.shared.key in
    let less : c.loop-number.number-index < length numbers = omega (arith, c.loop-number-test.true) in
    record {
      desk = c.split_seat-seat.ensures.0 ∙ i.desk;
      root = root_dealt [] _ numbers c.loop-number.number-index _ _ less i.root c.split_seat-seat.ensures.2;
      passes = passes_more (record { table = c.args.desk.now.shared.table_id; size = key.size; sets = key.sheets.value.items; quarters = key.sets.value.items; numbers = key.numbers.value.items; calls = key.calls }) _ numbers c.loop-number.number-index _ c.args.calls _ c.split_seat-seat.result.me _ _ less i.passes c.push_reserved.ensures.items
          (c.split_seat-seat.ensures.3 ∙ i.desk) (ap (λ l. get_or l c.loop-number.number-index 0) c.deref-number-items.ensures.value) (sym c.requires.key.1) refl (seat_dealt [] _ numbers c.loop-number.number-index _ _ less i.root c.split_seat-seat.ensures.4);
      count = omega (arith, i.count, c.push_reserved.ensures.len);
      room = omega (arith, i.room, c.push_reserved.ensures.capacity);
      left = omega (arith, i.left, c.in-Some.ensures.len);
      standings = all_front (λ s. (s.items ≡ []) × (c.args.calls ≤ vec_capacity s)) _ _ _ i.standings c.in-Some.ensures.items;
    }

pub returns : goal.returns
returns c =
    let key = c.args.desk.now.shared.key in
    c.loop-number.invariant.passes
    ∙ ap (map (new_pass (record { table = c.args.desk.now.shared.table_id; size = key.size; sets = key.sheets.value.items; quarters = key.sets.value.items; numbers = key.numbers.value.items; calls = key.calls })))
    (take_all c.loop-number.number-index c.args.numbers.now.items (omega (arith, c.loop-number-test.false)))
