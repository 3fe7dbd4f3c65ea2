use Rattle.std.proofs.Common.{◌+◌, ◌*◌, ◌||◌, refl, sym, ap, ◌∙◌, arith}
use Rattle.aim_sheets.specs.Spans.{in_spans}
use Rattle.aim_shards.specs.Cuts.{one}
use Rattle.aim_shards.proofs.Cutting.{none_span, off_span, or_none, part_span}
use Rattle.aim_shards.proofs.Pushed.{pushed_before, pushed_cells, pushed_count}
use Rattle.aim_shards.proofs.cuts.Corner.add.Goals as goal

pub returns-then-not-is_beside-clause-cells : goal.returns-then-not-is_beside-clause-cells
returns-then-not-is_beside-clause-cells c = λ cell. or_none _ _ (off_span c.args.self.half c.args.self.down c.args.self.right c.args.span cell (sym c.if-not-is_beside.ensures))

pub returns-then-mask-eq0-clause-cells : goal.returns-then-mask-eq0-clause-cells
returns-then-mask-eq0-clause-cells c = λ cell. or_none _ _ (none_span c.args.self.half (2 * one c.args.self.down + one c.args.self.right) c.args.span cell c.columns-mask.result c.if-mask-eq0.true c.columns-mask.ensures)

pub returns-clause-cells : goal.returns-clause-cells
returns-clause-cells c = λ cell. pushed_cells c.args.part.now.spans c.push_last.new.self.spans _ cell c.in-Ok.ensures.spans ∙ ap (λ b. in_spans c.args.part.now.spans cell || b)
    (part_span c.args.self.half (2 * one c.args.self.down + one c.args.self.right) c.args.span (record { step = c.args.span.step; row = c.args.span.row; mask = c.columns-mask.result }) cell refl refl c.columns-mask.ensures)

pub returns-clause-count : goal.returns-clause-count
returns-clause-count c = omega (arith, pushed_count c.args.part.now.spans c.push_last.new.self.spans _ c.in-Ok.ensures.spans, ap one (sym c.is_beside.ensures ∙ c.if-not-is_beside.false))

pub returns-clause-last : goal.returns-clause-last
returns-clause-last c = λ step row held is. pushed_before step row c.args.part.now.spans c.push_last.new.self.spans _ c.in-Ok.ensures.spans held is
