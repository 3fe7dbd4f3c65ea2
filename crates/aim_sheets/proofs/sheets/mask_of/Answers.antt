use Rattle.std.proofs.Common.{sym, ◌∙◌}
use Rattle.aim_sheets.proofs.Masks.{in_spans-at, in_spans-no_place, no_bit}
use Rattle.aim_sheets.proofs.sheets.mask_of.Goals as goal

pub returns-in-Ok : goal.returns-in-Ok
returns-in-Ok c = λ column. sym (in_spans-at c.args.spans.now c.requires c.in-Ok.at (record { step = 0; row = 0; mask = 0 }) c.args.step c.args.row column c.in-Ok.ensures.found.0 (c.in-Ok.ensures.found.1 (record { step = 0; row = 0; mask = 0 })))

pub returns-in-Err : goal.returns-in-Err
returns-in-Err c = λ column. no_bit column ∙ sym (in_spans-no_place c.args.spans.now c.args.step c.args.row column (sym c.in-Err.ensures.there))
