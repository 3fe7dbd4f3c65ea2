use Rattle.std.proofs.Common.{ap, ◌∙◌}
use Rattle.aim_sheets.specs.Spans.{in_spans}
use Rattle.aim_shards.specs.Sets.{Quarters, part}
use Rattle.aim_shards.proofs.Cutting.{four_parts}
use Rattle.aim_shards.proofs.cuts.quarter.Goals as goal

pub returns : goal.returns
returns c q cell lt =
    let u = c.in_ok-upper in
    let l = c.in_ok-lower in
    ap (λ (s : Quarters). in_spans (part s q) cell) c.new.ensures
    ∙ four_parts c.args.half c.args.sheet.now.spans u.upper.0.spans u.upper.1.spans l.lower.0.spans l.lower.1.spans u.ensures.left u.ensures.right l.ensures.left l.ensures.right q cell lt
