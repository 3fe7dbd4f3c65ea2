use Rattle.std.proofs.Common.{ap, refl, sym, ◌∙◌}
use Rattle.aim_mail.proofs.Opens.{new_client}
use Rattle.aim_mail.proofs.mailbox.hire.Goals as goal

pub new-requires : goal.new-requires
new-requires g c =
    let h = c.in_ok-port.ensures.hired in
    let p = c.in_ok-port.ensures.port in
    let n = c.in-Ok.ensures.inlet in
    record {
      new = (ap (λ z. z.sent) p, ap (λ z. z.heard) n);
      told = record {
        terms = c.requires.spans.0;
        is = ap (λ z. z.setting) p ∙ c.requires.spans.1;
        told = record {
          opening = _;
          is = ap (λ z. z.first) n ∙ c.in-Ok.ensures.slip.2;
          to = c.requires.next ∙ sym (ap (λ z. z.from) p);
          table = ap (λ z. z.table) c.note.ensures.note ∙ ap (λ z. z.table) h ∙ sym (ap (λ z. z.table) p);
          key = ap (λ z. z.key) c.note.ensures.note ∙ ap (λ z. z.key) h ∙ sym (ap (λ z. z.key) p);
          sheets = ap (λ z. z.room) c.empty.ensures ∙ c.requires.spans.2;
        };
      };
    }

pub returns-in-Ok-clause-intake : goal.returns-in-Ok-clause-intake
returns-in-Ok-clause-intake g c = c.note.ensures.same ∙ c.in_ok-port.ensures.hired

pub returns-in-Ok-clause-slip : goal.returns-in-Ok-clause-slip
returns-in-Ok-clause-slip g c =
    let h = c.in_ok-port.ensures.hired in
    let s = c.in-Ok.ensures.slip in (
      s.0,
      s.1,
      record {
        opening = _;
        is = s.2;
        to = refl;
        table = ap (λ z. z.table) c.note.ensures.note ∙ ap (λ z. z.table) h;
        key = ap (λ z. z.key) c.note.ensures.note ∙ ap (λ z. z.key) h;
        sheets = ap (λ z. z.room) c.empty.ensures;
      },
    )

pub returns-in-Ok-clause-client : goal.returns-in-Ok-clause-client
returns-in-Ok-clause-client g c = c.new.ensures ∙ new_client _ _ c.args.intake.now c.in-Ok.slip _ c.in_ok-port.ensures.port c.in-Ok.ensures.inlet c.requires.next
