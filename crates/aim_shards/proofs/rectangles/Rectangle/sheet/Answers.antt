use Rattle.std.proofs.Common.{◌-◌, ◌+◌, length, arith}
use Rattle.aim_shards.proofs.Boxes.{room_step}
use Rattle.aim_shards.proofs.rectangles.Rectangle.sheet.Goals as goal

pub add_step-requires-clause-room : goal.add_step-requires-clause-room
add_step-requires-clause-room c = (let i = c.loop-step.invariant in room_step (c.loop-step.step - c.args.self.now.from) (c.args.self.now.to - c.args.self.now.from + 1) (c.args.self.now.row1 - c.args.self.now.row0 + 1) (length c.loop-step.sheet.spans) c.loop-step.sheet.room (omega (arith, i.from, c.loop-step-test.true)) i.count i.room)
