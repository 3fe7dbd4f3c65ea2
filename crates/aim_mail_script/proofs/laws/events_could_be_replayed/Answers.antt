use Rattle.aim_mail_script.proofs.Replaying.{replayed}
use Rattle.aim_mail_script.proofs.laws.events_could_be_replayed.Goals as goal

pub returns : goal.returns
returns c lines whole = replayed lines whole
