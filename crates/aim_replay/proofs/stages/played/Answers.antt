use Rattle.aim_replay.proofs.StageLemmas.{body_taken, body_made}
use Rattle.aim_replay.proofs.stages.played.Goals as goal

pub returns-in-Ok-clause-takes : goal.returns-in-Ok-clause-takes
returns-in-Ok-clause-takes g c before st = body_taken before c.args.line.now c.args.session _ _ (c.in-Ok.ensures before st)

pub returns-in-Ok-clause-makes : goal.returns-in-Ok-clause-makes
returns-in-Ok-clause-makes g c before st = body_made before c.args.line.now c.args.session _ _ (c.in-Ok.ensures before st)
