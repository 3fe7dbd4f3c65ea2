use Rattle.std.proofs.Common.{ap, ◌∙◌, arith}
use Rattle.aim_turnstile.proofs.Steps.{counts_as, yields_as}
use Rattle.aim_turnstile.proofs.Enters.{put, put_counted, entry, no_entry, left_counted, left_plain}
use Rattle.aim_turnstile.proofs.turnstile.leave.Goals as goal
use Rattle.aim_turnstile.proofs.turnstile.leave.Goals.{then-made, else-made}

pub fetch_add-requires : goal.fetch_add-requires
fetch_add-requires g c =
    let l = c.requires.leaves in
    let x = c.exchange.ensures in
    let e = entry l c.if-made.true in
    (x.0 ∙ c.requires.desk.0, omega (arith, c.requires.desk.1), counts_as _ _ _ _ _ _ _ l.ticket _ _ _ _ e.0 (put l x.3) e.1 e.2 l.lawful)

pub fetch_add-requires-2 : goal.fetch_add-requires-2
fetch_add-requires-2 g c =
    let l = c.requires.leaves in
    let x = c.exchange.ensures in
    elim c.if-made.branch [
      | then-made w ↦ (
        ap (λ z. z.table_id) w.seat-is ∙ w.fetch_add.ensures.0 ∙ x.0 ∙ c.requires.desk.0,
        omega (arith, c.requires.desk.1),
        yields_as _ _ _ _ _ _ _ l.ticket _ _ _ _ (ap (λ z. z.me) w.seat-is ∙ put_counted l x.3 w.if-made.true w.fetch_add.ensures.2) (entry l w.if-made.true).1 l.setting,
      )
      | else-made w ↦ (
        ap (λ z. z.table_id) w.seat-is ∙ x.0 ∙ c.requires.desk.0,
        omega (arith, c.requires.desk.1),
        yields_as _ _ _ _ _ _ _ l.ticket _ _ _ _ (ap (λ z. z.me) w.seat-is ∙ put l x.3) (no_entry l w.if-made.false) l.setting,
      )
    ]

pub returns : goal.returns
returns g c =
    let l = c.requires.leaves in
    let x = c.exchange.ensures in
    let y = c.fetch_add-2.ensures in
    elim c.if-made.branch [
      | then-made w ↦ record {
        seat = (y.0 ∙ ap (λ z. z.table_id) w.seat-is ∙ w.fetch_add.ensures.0 ∙ x.0, y.1 ∙ ap (λ z. z.id) w.seat-is ∙ w.fetch_add.ensures.1 ∙ x.1);
        left = left_counted l x.3 w.if-made.true w.fetch_add.ensures.2 (ap (λ z. z.me) w.seat-is) y.2;
      }
      | else-made w ↦ record {
        seat = (y.0 ∙ ap (λ z. z.table_id) w.seat-is ∙ x.0, y.1 ∙ ap (λ z. z.id) w.seat-is ∙ x.1);
        left = left_plain l x.3 w.if-made.false (ap (λ z. z.me) w.seat-is) y.2;
      }
    ]
