use Rattle.std.proofs.Common.{arith, List, subst}
use Rattle.aim_shards.proofs.Sheeted.{sheets_more, columns_fit, rows_fit, steps_fit}
use Rattle.std.proofs.lemmas.List.{take_all}
use Rattle.aim_shards.specs.declared.rectangles.Rectangle.{Rectangle}
use Rattle.aim_shards.specs.Fitting.{AreSheets}
use Rattle.aim_shards.proofs.rectangles.sheets.Goals as goal

pub loop-rectangle-preserved : goal.loop-rectangle-preserved
loop-rectangle-preserved c =
    let i = c.loop-rectangle.invariant in
    let p = c.push_reserved.ensures in
    record {
      count = omega (arith, i.count, p.len);
      room = omega (arith, i.room, p.capacity);
      made = sheets_more c.args.n c.args.horizon c.args.rectangles.now c.loop-rectangle.sheets.items c.push_reserved.new.self.items c.loop-rectangle.rectangle-index _ c.in_ok-sheet.field-0 c.loop-rectangle-test.true c.requires.fit i.made p.items (λ cell. c.in_ok-sheet.ensures cell);
    }

pub returns : goal.returns
returns c = subst (λ (l : List Rectangle). AreSheets c.args.n c.args.horizon l c.loop-rectangle.sheets.items) (take_all c.loop-rectangle.rectangle-index c.args.rectangles.now (omega (arith, c.loop-rectangle-test.false))) c.loop-rectangle.invariant.made

pub sheet-requires-clause-columns : goal.sheet-requires-clause-columns
sheet-requires-clause-columns c = columns_fit c.args.rectangles.now _ c.requires.n c.requires.fit c.loop-rectangle-test.true

pub sheet-requires-clause-rows : goal.sheet-requires-clause-rows
sheet-requires-clause-rows c = rows_fit c.args.rectangles.now _ c.requires.n c.requires.fit c.loop-rectangle-test.true

pub sheet-requires-clause-steps : goal.sheet-requires-clause-steps
sheet-requires-clause-steps c = steps_fit c.args.rectangles.now _ c.requires.horizon c.requires.fit c.loop-rectangle-test.true
