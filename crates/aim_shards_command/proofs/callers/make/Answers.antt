use Rattle.std.proofs.Common.{Some, sym, ap, ◌∙◌}
use Rattle.aim_shards_command.specs.declared.script.ClaimAsk.TheVariants.{Claim, Free}
use Rattle.aim_shards_command.specs.Said.{ask_in}
use Rattle.aim_shards_command.proofs.callers.make.Goals as goal

pub claim-requires-clause-can : goal.claim-requires-clause-can
claim-requires-clause-can g c κs within =
    c.requires.can (Claim c.in-Some-Claim.set) (ap (λ n. ask_in n c.args.line.now) (sym c.number.ensures) ∙ (sym c.ask_in.ensures ∙ (c.in-Some-Claim.is ∙ ap Some c.in-Some-Claim.field-0-is)))

pub free-requires-clause-can : goal.free-requires-clause-can
free-requires-clause-can g c κs within =
    c.requires.can (Free c.in-Some-Free.call) (ap (λ n. ask_in n c.args.line.now) (sym c.number.ensures) ∙ (sym c.ask_in.ensures ∙ (c.in-Some-Free.is ∙ ap Some c.in-Some-Free.field-0-is)))
