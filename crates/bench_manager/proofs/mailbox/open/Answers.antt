use Rattle.std.proofs.Common.{◌≡◌, length, Option, Some, sym, ap, ◌∙◌, subst, arith}
use Rattle.std.specs.Prelude.{IfSome}
use Rattle.aim_layout.specs.Intersection.{Intersection}
use Rattle.aim_mail.specs.declared.letter.MailSetting.{MailSetting}
use Rattle.bench_manager.proofs.mailbox.open.Goals as goal

setting_if : (o : Option MailSetting) (s : MailSetting) (i : Intersection) → o ≡ Some s → s.layout ≡ i → IfSome o (λ t. t.layout ≡ i)
setting_if o s i is layout = subst (λ p. IfSome p (λ t. t.layout ≡ i)) (sym is) layout

pub returns-in-Ok-clause-layout : goal.returns-in-Ok-clause-layout
returns-in-Ok-clause-layout g c = λ k d lt.
    let e = c.in-Ok.ensures in
    let count : length c.in-Ok.opened.clients.items ≡ c.args.callers = e.count in
    let x = e.clients k d (omega (arith, lt, count)) in
    setting_if _ _ _ x.own.setting (ap (λ (s : MailSetting). s.layout) e.server ∙ c.in_ok-copy.ensures)

pub returns-in-Ok-clause-own : goal.returns-in-Ok-clause-own
returns-in-Ok-clause-own g c = λ k d lt.
    let e = c.in-Ok.ensures in
    let count : length c.in-Ok.opened.clients.items ≡ c.args.callers = e.count in
    (e.clients k d (omega (arith, lt, count))).own
