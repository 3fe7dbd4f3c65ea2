use Rattle.std.proofs.Common.{arith}
use Rattle.aim_mail.proofs.Opens.{staffed_none}
use Rattle.aim_mail.proofs.mailbox.unstaffed.Goals as goal

pub returns : goal.returns
returns g c =
    let i = c.in_ok-intake.ensures in
    let n = c.vehicles-vehicles.ensures in
    let s = c.in_ok-slips.ensures in
    let k = c.in_ok-clients.ensures in
    let a = s.capacity in
    let b = k.capacity in
    (staffed_none _ _ _ _ i.0 i.1 i.2 i.3 s.items k.items, omega (arith, n, a), omega (arith, n, b))
