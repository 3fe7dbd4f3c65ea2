use Rattle.std.proofs.Common.{◌≡◌, ◌+◌, arith, length}
use Rattle.aim_text_lines.proofs.ListLaws.{number_shorter}
use Rattle.aim_text_lines.proofs.lists.down.Goals as goal

pub fates-requires : goal.fates-requires
fates-requires c =
    let shorter : length c.number32.new.words + 1 ≡ length c.args.words.now = number_shorter _ _ _ c.in_ok-vehicle.ensures in
    omega (arith, c.requires)
