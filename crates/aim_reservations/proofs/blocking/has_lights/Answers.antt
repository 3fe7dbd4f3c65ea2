use Rattle.std.proofs.Common.{sym, add-one}
use Rattle.aim_reservations.proofs.LitLemmas.{dark_more, lit_at}
use Rattle.aim_reservations.proofs.blocking.has_lights.Goals as goal

pub returns-then-has_lights : goal.returns-then-has_lights
returns-then-has_lights c = sym (lit_at c.args.layout.now.policies c.loop-policy.policy c.kind.result c.kind.ensures (sym c.if-has_lights.ensures))

pub loop-policy-preserved : goal.loop-policy-preserved
loop-policy-preserved c = rw (add-one c.loop-policy.policy) (dark_more c.args.layout.now.policies c.loop-policy.policy c.kind.result c.kind.ensures (sym c.if-has_lights.ensures) c.loop-policy.invariant)
