use Rattle.std.proofs.Common.{◌∙◌}
use Rattle.aim_mail.proofs.CallLemmas.{ends_so, finished}
use Rattle.aim_mail.proofs.client.Client.finish.Goals as goal

pub invariant_of-result : goal.invariant_of-result
invariant_of-result g c = rw c.send.ensures (ends_so _ _ _ c.self.invariant.0)

pub returns : goal.returns
returns g c = rw c.send.ensures (finished c.self.inside.port c.self.inside.inlet c.from-from.result ∙ c.self.view_is)
