use Rattle.std.proofs.Common.{◌*◌, ◌+◌, arith}
use Rattle.aim_shards.specs.Cuts.{is_beside, one}
use Rattle.aim_shards.proofs.Cutting.{cells_more, room_for, count_more}
use Rattle.aim_shards.proofs.Pushed.{rises}
use Rattle.aim_shards.proofs.cuts.Corner.part.Goals as goal

pub add-requires-clause-room : goal.add-requires-clause-room
add-requires-clause-room c = λ yes'. (let i = c.loop-span.invariant in room_for (is_beside c.args.self.half c.args.self.down) c.spans-span-items.result.now c.loop-span.part.spans c.loop-span.span-index c.loop-span.part.room _ c.loop-span-test.true i.count i.room yes')

pub loop-span-preserved : goal.loop-span-preserved
loop-span-preserved c =
    let i = c.loop-span.invariant in
    let a = c.add.ensures in
    record {
      cells = λ cell. cells_more c.args.self.half (2 * one c.args.self.down + one c.args.self.right) c.spans-span-items.result.now c.loop-span.part.spans c.add.new.part.spans c.loop-span.span-index _ cell c.loop-span-test.true (a.cells cell) (i.cells cell);
      count = count_more (is_beside c.args.self.half c.args.self.down) c.spans-span-items.result.now c.loop-span.part.spans c.add.new.part.spans c.loop-span.span-index _ c.loop-span-test.true i.count a.count;
      room = omega (arith, i.room, a.room);
      all = i.all;
      last = λ k d le lt. a.last _ _ (i.last k d (omega arith) lt) (rises c.spans-span-items.result.now c.loop-span.span-index k d _ c.spans-span-items.ensures.rising (omega arith) lt);
    }

pub add-requires-clause-last : goal.add-requires-clause-last
add-requires-clause-last c = c.loop-span.invariant.last c.loop-span.span-index _ (omega arith) c.loop-span-test.true
