use Rattle.aim_tiles.proofs.FourWords.{four_apart}
use Rattle.aim_tiles.proofs.lanes.do_four_meet.Goals as goal

pub returns : goal.returns
returns c = four_apart c.args.left.now c.args.right.now c.args.at c.requires.left c.requires.right
