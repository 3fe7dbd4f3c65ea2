use Rattle.std.proofs.Common.{rules, ◌<◌, ◌^◌}
use Rattle.std.specs.Prelude.{slice_index}
use Rattle.aim_layout.proofs.ShareLemmas.{bit_shared}
use Rattle.aim_layout.proofs.builders.share_bit.Goals as goal

pub returns-then-a-row-ne0-clause-some : goal.returns-then-a-row-ne0-clause-some
returns-then-a-row-ne0-clause-some c =
    let fits : slice_index c.args.a.now c.loop-row.row < 2 ^ 64 = search rules in
    bit_shared c.args.a.now c.args.b.now c.loop-row.row c.loop-row-test.true c.if-a-row-ne0.true fits
