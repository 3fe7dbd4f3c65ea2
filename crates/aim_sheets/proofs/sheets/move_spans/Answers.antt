use Rattle.std.proofs.Common.{◌≡◌, ◌≢◌, ◌<◌, length, get_or, get_or-set_other, arith, ◌∙◌, ap, refl}
use Rattle.std.proofs.lemmas.List.{get_or_default}
use Rattle.std.proofs.lemmas.List.Edits.{map_over_more}
use Rattle.aim_sheets.specs.declared.spans.Span.{Span}
use Rattle.aim_sheets.specs.Moves.{moved}
use Rattle.aim_sheets.proofs.sheets.move_spans.Goals as goal

pub loop-span-init : goal.loop-span-init
loop-span-init c = record { before = refl; ahead = λ k d _. refl }

pub loop-span-preserved : goal.loop-span-preserved
loop-span-preserved c =
    let none : Span = record { step = 0; row = 0; mask = 0 } in
    let x = get_or c.loop-span.spans c.loop-span.span-index none in
    let lt : c.loop-span.span-index < length c.loop-span.spans = omega arith in
    record {
      before = map_over_more (moved c.args.from c.args.to) c.args.spans.now c.loop-span.spans c.loop-span.span-index x (omega arith) c.loop-span.invariant.before (get_or_default c.loop-span.spans c.loop-span.span-index none x lt);
      ahead = λ k d le. (let ne : k ≢ c.loop-span.span-index = omega arith in
          get_or-set_other c.loop-span.spans c.loop-span.span-index k _ d ne ∙ c.loop-span.invariant.ahead k d (omega arith));
    }

pub overflow_sub-span : goal.overflow_sub-span
overflow_sub-span c =
    let none : Span = record { step = 0; row = 0; mask = 0 } in
    let e = c.loop-span.invariant.ahead c.loop-span.span-index none (omega arith) in
    let h = c.requires c.loop-span.span-index none (omega arith) in
    let s : (get_or c.loop-span.spans c.loop-span.span-index none).step ≡ (get_or c.args.spans.now c.loop-span.span-index none).step = ap (λ (s : Span). s.step) e in
    omega (arith, h.0)

pub overflow_add-span : goal.overflow_add-span
overflow_add-span c =
    let none : Span = record { step = 0; row = 0; mask = 0 } in
    let e = c.loop-span.invariant.ahead c.loop-span.span-index none (omega arith) in
    let h = c.requires c.loop-span.span-index none (omega arith) in
    let s : (get_or c.loop-span.spans c.loop-span.span-index none).step ≡ (get_or c.args.spans.now c.loop-span.span-index none).step = ap (λ (s : Span). s.step) e in
    omega (arith, h.1)
