use Rattle.std.proofs.Common.{◌≡◌, ◌+◌, ◌&&◌, ◌||◌, nat_le, nat_lt, bit_or, slice_index_or, arith, refl, ap, ◌∙◌}
use Rattle.std.specs.Prelude.{if◌then◌else◌}
use Rattle.aim_geometry.specs.Rects.{in_columns, tile_at}
use Rattle.aim_geometry.proofs.Bits.{row_written, row_waits, has_bit_or}
use Rattle.aim_geometry.proofs.RectLemmas.{rows_are_joined}
use Rattle.aim_geometry.proofs.masks.join.Goals as goal

pub loop-row-preserved : goal.loop-row-preserved
loop-row-preserved c = λ r k rl kl.
    let m = c.loop-row.row in
    row_written c.loop-row.rows m c.args.rect.row0 (bit_or (slice_index_or c.loop-row.rows m 0) c.columns-mask.result) r k (tile_at c.args.rows.now r k || in_columns c.args.rect k) (tile_at c.args.rows.now r k)
    (omega arith) (omega arith)
    (λ e. rw (has_bit_or (slice_index_or c.loop-row.rows m 0) c.columns-mask.result k, c.columns-mask.ensures k kl, ← e, c.loop-row.invariant r k rl kl, e, row_waits c.args.rect.row0 m (tile_at c.args.rows.now m k || in_columns c.args.rect k) (tile_at c.args.rows.now m k)) refl)
    (c.loop-row.invariant r k rl kl)

pub returns : goal.returns
returns c = λ r k rl kl.
    let rect = c.args.rect in
    let end : c.loop-row.row ≡ rect.row1 + 1 = omega arith in
    c.loop-row.invariant r k rl kl
    ∙ ap (λ n. if nat_le rect.row0 r && nat_lt r n then tile_at c.args.rows.now r k || in_columns rect k else tile_at c.args.rows.now r k) end
    ∙ rows_are_joined rect.row0 rect.row1 r (tile_at c.args.rows.now r k) (in_columns rect k)
