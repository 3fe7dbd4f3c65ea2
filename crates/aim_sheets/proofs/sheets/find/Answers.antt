use Rattle.std.proofs.Common.{sym, arith}
use Rattle.aim_sheets.proofs.Order.{has_place-none}
use Rattle.aim_sheets.proofs.sheets.find.Goals as goal

pub returns-then-at-spans-clause-there : goal.returns-then-at-spans-clause-there
returns-then-at-spans-clause-there c =
    sym (has_place-none c.args.spans.now c.requires c.args.step c.args.row c.place_of-at.result (record { step = 0; row = 0; mask = 0 }) c.place_of-at.ensures.place (λ lt. absurd (omega (arith, c.if-at-spans.true))))

pub returns-clause-there : goal.returns-clause-there
returns-clause-there c =
    sym (has_place-none c.args.spans.now c.requires c.args.step c.args.row c.place_of-at.result (record { step = 0; row = 0; mask = 0 }) c.place_of-at.ensures.place (λ _. sym c.if-is_at.ensures))
