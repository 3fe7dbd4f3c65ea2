use Rattle.std.proofs.Common.{ap, sym, ◌∙◌}
use Rattle.aim_mail.proofs.Posts.{hires_as}
use Rattle.aim_mail.proofs.post.Intake.hire.Goals as goal

pub another-pass-requires-clause-rule : goal.another-pass-requires-clause-rule
another-pass-requires-clause-rule c = hires_as _ _ c.self.invariant.2

pub returns-clause-port : goal.returns-clause-port
returns-clause-port c =
    let s = c.another-pass.ensures.channel in
    let e = c.another-pass.ensures.rule in
    let v = c.self.view_is in
    λ i. record {
      table = (s.2.0 ∙ sym c.self.invariant.0.0 ∙ ap (λ z. z.table) v) i;
      key = (s.2.1 ∙ sym c.self.invariant.0.1 ∙ ap (λ z. z.key) v) i;
      setting = (ap (λ u. u.setting) e.1 ∙ ap (λ z. z.setting) v) i;
      from = c.requires i;
      sent = ap (λ u. u.sent) e.1 i;
    }
