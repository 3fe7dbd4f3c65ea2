use Rattle.std.proofs.Common.{refl}
use Rattle.aim_mail.proofs.Opens.{kept_new, open_new}
use Rattle.aim_mail.proofs.client.Client.new.Goals as goal

pub invariant_of-result : goal.invariant_of-result
invariant_of-result c = (open_new _ _ c.requires.new.0 c.requires.new.1, c.requires.told, kept_new c.args.port c.args.inlet c.requires.new.0 c.requires.new.1 refl)
