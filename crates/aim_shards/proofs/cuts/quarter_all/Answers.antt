use Rattle.std.proofs.Common.{◌≡◌, ◌&&◌, arith, ap, ◌∙◌}
use Rattle.std.proofs.lemmas.List.{length_push}
use Rattle.aim_sheets.specs.Spans.{in_spans}
use Rattle.aim_shards.specs.Cuts.{half_of, lies_at}
use Rattle.aim_shards.proofs.Cutting.{cut_one}
use Rattle.aim_shards.proofs.cuts.quarter_all.Goals as goal

pub loop-sheet-preserved : goal.loop-sheet-preserved
loop-sheet-preserved c =
    let i = c.loop-sheet.invariant in
    let p = c.push_reserved.ensures in
    let half : c.div_ceil-half.result ≡ half_of c.args.n = omega (arith, c.div_ceil-half.ensures) in
    record {
      count = omega (arith, i.count, p.len, length_push c.loop-sheet.yielded c.in-Some.sheet);
      room = omega (arith, i.room, p.capacity);
      cut = cut_one (half_of c.args.n) c.loop-sheet.yielded c.loop-sheet.quarters.items c.push_reserved.new.self.items c.in-Some.sheet c.in_ok-quarter.field-0 i.cut p.items
          (λ q cell b. c.in_ok-quarter.ensures q cell b ∙ ap (λ h. in_spans c.in-Some.sheet.spans cell && lies_at h q cell) half);
    }
