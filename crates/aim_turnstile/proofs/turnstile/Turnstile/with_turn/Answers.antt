use Rattle.aim_turnstile.proofs.Calls.{sits_after, calls_after}
use Rattle.aim_turnstile.proofs.turnstile.Turnstile.with_turn.Goals as goal

pub invariant_of-pass : goal.invariant_of-pass
invariant_of-pass g c = sits_after _ c.enter-kept.ensures.entered c.apply-kept.ensures.entry c.made-made.ensures c.leave.ensures.left

pub returns-clause-call : goal.returns-clause-call
returns-clause-call g c =
    rw (← c.self.view_is, ← c.pass.view_is)
    (calls_after _ {does = g.K.Kept.does} _ _ c.enter-kept.ensures.entered c.apply-kept.ensures.entry c.made-made.ensures c.leave.ensures.left c.apply-kept.ensures.setting c.apply-kept.ensures.does c.apply-kept.ensures.lawful)
