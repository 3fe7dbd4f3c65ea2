use Rattle.std.proofs.Common.{ap, ◌∙◌}
use Rattle.aim_sheets.specs.Spans.{in_spans, in_span}
use Rattle.aim_sheets.proofs.Edits.{list_any-insert}
use Rattle.aim_sheets.proofs.sheets.Slots.push.Goals as goal

pub returns-else-spans-room-clause-cells : goal.returns-else-spans-room-clause-cells
returns-else-spans-room-clause-cells c = λ cell. ap (λ s. in_spans s.spans cell) c.insert.ensures ∙ list_any-insert (λ s. in_span s cell) c.args.self.now.spans c.in-Err.at c.args.span
