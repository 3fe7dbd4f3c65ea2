use Rattle.std.proofs.Common.{◌≡◌, ◌+◌, ◌<◌, ◌&&◌, nat_le, nat_lt, not, bit_and, slice_index_or, arith, refl, ap, ◌∙◌, w64, ◌^◌}
use Rattle.std.specs.Prelude.{if◌then◌else◌}
use Rattle.std.specs.Int.{bit_not}
use Rattle.aim_geometry.specs.Rects.{in_columns, in_rect, tile_at}
use Rattle.aim_geometry.proofs.Bits.{row_written, row_waits, has_bit_and_not}
use Rattle.aim_footprint.proofs.LeftRows.{rows_are_left}
use Rattle.aim_footprint.proofs.slides.clear.Goals as goal

pub loop-row-preserved : goal.loop-row-preserved
loop-row-preserved c = λ r k rl kl.
    let m = c.loop-row.row in
    let was = slice_index_or c.loop-row.rows m 0 in
    let all = c.columns-all.result in
    let stay = c.in_row-stay.result in
    let old = c.args.rows.now in
    let wide : all < 2 ^ 64 = c.columns-all.type_inv in
    let wide_stay : stay < 2 ^ 64 = c.in_row-stay.type_inv in
    row_written c.loop-row.rows m c.args.gone.row0 (bit_and was (bit_not w64 (bit_and all (bit_not w64 stay)))) r k (tile_at old r k && not (in_columns c.args.gone k && not (in_rect c.args.kept r k))) (tile_at old r k)
    (omega arith) (omega arith)
    (λ e. rw (has_bit_and_not was all stay k wide wide_stay kl, c.columns-all.ensures k kl, c.in_row-stay.ensures k kl, ← e, c.loop-row.invariant r k rl kl, e, row_waits c.args.gone.row0 m (tile_at old m k && not (in_columns c.args.gone k && not (in_rect c.args.kept m k))) (tile_at old m k)) refl)
    (c.loop-row.invariant r k rl kl)

pub returns : goal.returns
returns c = λ r k rl kl.
    let gone = c.args.gone in
    let had = tile_at c.args.rows.now r k in
    let kept = in_rect c.args.kept r k in
    let end : c.loop-row.row ≡ gone.row1 + 1 = omega arith in
    c.loop-row.invariant r k rl kl
    ∙ ap (λ n. if nat_le gone.row0 r && nat_lt r n then had && not (in_columns gone k && not kept) else had) end
    ∙ rows_are_left gone.row0 gone.row1 r had (in_columns gone k) kept
