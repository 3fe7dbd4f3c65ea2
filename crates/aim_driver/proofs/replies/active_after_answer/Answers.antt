use Rattle.std.proofs.Common.{ap, sym, ◌∙◌}
use Rattle.aim_messages.specs.declared.replies.Reply.{Reply}
use Rattle.aim_driver.specs.Replies.{active_told}
use Rattle.aim_driver.proofs.replies.active_after_answer.Goals as goal

pub returns-in-Reject : goal.returns-in-Reject
returns-in-Reject c =
    let told = c.active_after_refusal.ensures c.in-Reject.reason c.in-Reject.next in
    told ∙ ap (λ (r : Reply). active_told c.args.change r c.args.active) (sym c.in-Reject.is)
