use Rattle.std.proofs.Common.{refl}
use Rattle.std.proofs.Math.Nat.{add-mod_right}
use Rattle.aim_rules.specs.Lights.{round}
use Rattle.aim_rules.proofs.growth.phases_go_round.Goals as goal

pub returns : goal.returns
returns c p offset = rw (add-mod_right offset (round p.phases)) refl
