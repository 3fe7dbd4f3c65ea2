use Rattle.std.proofs.Common.{◌≡◌, sym, ◌∙◌, ap}
use Rattle.aim_layout.specs.Building.{finish_fault, policy_fault, with_policy}
use Rattle.aim_layout.specs.Intersection.{Intersection}
use Rattle.aim_layout.specs.declared.policies.PolicyKind.TheVariants as policy
use Rattle.aim_drive_command.specs.Laid.{laid}
use Rattle.aim_drive_command.proofs.Openings.{built_free, built_whole, layout_built_so}
use Rattle.aim_drive_command.proofs.Ways.{no_err}
use Rattle.aim_drive_command.proofs.layout.finished.Goals as goal

pub unreachable-requires : goal.unreachable-requires
unreachable-requires c = no_err c.add_policy.result c.in-Err.field-0 c.in-Err.is (c.add_policy.ensures.fault ∙ ap policy_fault c.requires ∙ built_free)

pub unreachable-requires-in-Err-finish : goal.unreachable-requires-in-Err-finish
unreachable-requires-in-Err-finish c =
    let made : c.add_policy.new.self ≡ with_policy (laid 12) policy.Fcfs = c.in-Ok.ensures.ok ∙ ap (λ (i : Intersection). with_policy i policy.Fcfs) c.requires in
    no_err c.finish.result c.in-Err-finish.field-0 c.in-Err-finish.is (c.finish.ensures.fault ∙ ap finish_fault made ∙ built_whole)

pub returns : goal.returns
returns c =
    let made : c.add_policy.new.self ≡ with_policy (laid 12) policy.Fcfs = c.in-Ok.ensures.ok ∙ ap (λ (i : Intersection). with_policy i policy.Fcfs) c.requires in
    c.in-Ok-finish.ensures.layout ∙ made ∙ sym layout_built_so
