use Rattle.std.proofs.Common.{ap, subst}
use Rattle.aim_turnstile.specs.History.{Begins}
use Rattle.aim_turnstile.proofs.Histories.{begins_trans}
use Rattle.tests_drives.proofs.turn.call_after_meeting.Goals as goal

pub returns-clause-behind : goal.returns-clause-behind
returns-clause-behind g c = begins_trans _ _ _ (subst (λ l. Begins l c.meet.new.pass.seen) (ap (λ f. f.seen) c.front-front.ensures.front) c.meet.ensures.meets.shows) c.with_turn.ensures.call.grows
