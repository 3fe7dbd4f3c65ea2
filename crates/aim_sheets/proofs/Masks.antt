-- The columns of one step and row.
use Rattle.std.proofs.Common.{◌≡◌, ◌⊎◌, ℕ, ◌<◌, true, false, ◌&&◌, List, [], ◌∷◌, length, get_or, refl, sym, ap, subst, ◌∙◌, inl, inr}
use Rattle.std.specs.Prelude.{◌==◌}
use Rattle.std.specs.Cmp.{both_ways as same_tests}
use Rattle.std.proofs.lemmas.Bool.{and_parts, and_from, and_left, or_parts, or_from, both_ways, cases_order}
use Rattle.std.proofs.lemmas.Nat.Bits.{bit_at-zero}
use Rattle.std.proofs.lemmas.List.{get_or_default}
use Rattle.std.proofs.lemmas.List.Folds.{list_any_at, Any-from_list_any}
use Rattle.aim_geometry.specs.Cells.{cell_at}
use Rattle.aim_sheets.specs.declared.spans.Span.{Span}
use Rattle.aim_geometry.specs.Rects.{has_bit}
use Rattle.aim_sheets.specs.Spans.{is_at, in_span, in_spans, has_place, AreRising}
use Rattle.aim_sheets.proofs.Order.{not_before_at, precedes_at}

-- where there is no span of a step and row, no cell is
pub in_spans-no_place : (spans : List Span) (step row column : ℕ) → has_place spans step row ≡ false → in_spans spans (cell_at step row column) ≡ false
in_spans-no_place [] step row column none = refl
in_spans-no_place (x ∷ spans) step row column none =
    let parts = or_parts (is_at x step row) (has_place spans step row) none in
    or_from (is_at x step row && has_bit x.mask column) (in_spans spans (cell_at step row column)) (and_left (is_at x step row) (has_bit x.mask column) parts.0) (in_spans-no_place spans step row column parts.1)

pub no_bit : (column : ℕ) → has_bit 0 column ≡ false
no_bit column = ap (λ b. b == 1) (bit_at-zero column)

module _ (spans : List Span) (rising : AreRising spans) where
  -- two spans of one step and row are at one place
  pub one_place : (i j : ℕ) (d : Span) (step row : ℕ) → i < length spans → j < length spans → is_at (get_or spans i d) step row ≡ true → is_at (get_or spans j d) step row ≡ true → i ≡ j
  one_place i j d step row li lj ati atj = go (cases_order i j)
    where
      go : (i ≡ j) ⊎ ((i < j) ⊎ (j < i)) → i ≡ j
      go (inl e) = e
      go (inr (inl lt)) = absurd (both_ways _ (not_before_at (get_or spans i d) step row ati) (precedes_at (get_or spans i d) (get_or spans j d) step row (rising i j d lt lj) atj))
      go (inr (inr lt)) = absurd (both_ways _ (not_before_at (get_or spans j d) step row atj) (precedes_at (get_or spans j d) (get_or spans i d) step row (rising j i d lt li) ati))

  pub in_spans-at : (i : ℕ) (e : Span) (step row column : ℕ) → i < length spans → is_at (get_or spans i e) step row ≡ true → in_spans spans (cell_at step row column) ≡ has_bit (get_or spans i e).mask column
  in_spans-at i e step row column lt at = same_tests _ _ to from
    where
      to : in_spans spans (cell_at step row column) ≡ true → has_bit (get_or spans i e).mask column ≡ true
      to is =
          let found = Any-from_list_any (λ s. in_span s (cell_at step row column)) spans is in
          let there : get_or spans found.0 e ≡ found.1 = get_or_default spans found.0 e found.1 found.2 ∙ found.3 in
          let parts = and_parts (is_at found.1 step row) (has_bit found.1.mask column) found.4 in
          let place : i ≡ found.0 = one_place i found.0 e step row lt found.2 at (subst (λ (s : Span). is_at s step row ≡ true) (sym there) parts.0) in
          let same : get_or spans i e ≡ found.1 = ap (λ k. get_or spans k e) place ∙ there in
          subst (λ (s : Span). has_bit s.mask column ≡ true) (sym same) parts.1

      from : has_bit (get_or spans i e).mask column ≡ true → in_spans spans (cell_at step row column) ≡ true
      from is = list_any_at (λ s. in_span s (cell_at step row column)) spans i e lt (and_from (is_at (get_or spans i e) step row) (has_bit (get_or spans i e).mask column) at is)
