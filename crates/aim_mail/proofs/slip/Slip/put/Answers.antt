use Rattle.crossbeam_channel.specs.Claims.{view}
use Rattle.aim_mail.proofs.Responses.{puts}
use Rattle.aim_mail.proofs.slip.Slip.put.Goals as goal

pub send_until-requires-clause-rule : goal.send_until-requires-clause-rule
send_until-requires-clause-rule g c = (puts _ _ (view c.self.inside.pass) c.args.response c.self.invariant.1 c.self.invariant.2 (rw (← c.self.view_is) at c.requires.lawful), λ _ _ _ _. tt)
