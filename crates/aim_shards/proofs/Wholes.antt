-- What is legal by the parts of the sets is a legal claim history.
use Rattle.std.proofs.Common.{◌≡◌, ◌⊎◌, ℕ, suc, ◌+◌, ◌*◌, ◌<◌, Bool, true, false, ◌&&◌, ◌||◌, not, List, [], ◌∷◌, refl, sym, ap, ◌∙◌, inl, inr, arith}
use Rattle.std.specs.Prelude.{nat_le}
use Rattle.std.specs.List.{list_any}
use Rattle.std.proofs.lemmas.Bool.{and_parts, eq-eqb}
use Rattle.aim_geometry.specs.Cells.{Cell}
use Rattle.aim_sheets.specs.Spans.{in_spans}
use Rattle.aim_sheets.specs.Sheets.{Spans}
use Rattle.aim_shards.specs.declared.claims.ClaimAct.{ClaimAct}
use Rattle.aim_shards.specs.declared.claims.ClaimAct.TheVariants as act
use Rattle.aim_shards.specs.declared.claims.ClaimEntry.{ClaimEntry}
use Rattle.aim_shards.specs.Sets.{Quarters, part, set_at, meets_in, meets}
use Rattle.aim_shards.specs.Claims.{claimed, stood, answer, IsLegalFrom}
use Rattle.aim_shards.specs.Cuts.{one, quadrant_at, lies_at, spans_at, AreCut}
use Rattle.aim_shards.specs.History.{claims_cell, is_claimed, IsAnswer, IsHistoryFrom}
use Rattle.aim_shards.proofs.Sharing.{differ, any_map, or_either, or_left, or_right, spans_met, spans_share}
use Rattle.aim_shards.proofs.Freeing.{meets_by}

below_four : (x y : Bool) → 2 * one x + one y < 4
below_four true true = omega arith
below_four true false = omega arith
below_four false true = omega arith
below_four false false = omega arith

four_parts : (a b c d : Bool) → (a || (b || (c || d))) ≡ true → (a ≡ true) ⊎ ((b ≡ true) ⊎ ((c ≡ true) ⊎ (d ≡ true)))
four_parts true b c d h = inl refl
four_parts false true c d h = inr (inl refl)
four_parts false false true d h = inr (inr (inl refl))
four_parts false false false d h = inr (inr (inr h))

module _ (half : ℕ) (sheets : List Spans) (sets : List Quarters) (cut : AreCut half sheets sets) where
  -- a cell of a set is in the part of its quadrant, and a cell of a part is in the set
  in_part : (k : ℕ) (cell : Cell) → in_spans (spans_at sheets k) cell ≡ true → in_spans (part (set_at sets k) (quadrant_at half cell.row cell.col)) cell ≡ true
  in_part k cell h =
      cut.cells k (quadrant_at half cell.row cell.col) cell (below_four (nat_le half cell.row) (nat_le half cell.col))
      ∙ (λ i. h i && eq-eqb (quadrant_at half cell.row cell.col) (quadrant_at half cell.row cell.col) refl i)

  in_whole : (k q : ℕ) (cell : Cell) → q < 4 → in_spans (part (set_at sets k) q) cell ≡ true → in_spans (spans_at sheets k) cell ≡ true
  in_whole k q cell lt h = (and_parts (in_spans (spans_at sheets k) cell) (lies_at half q cell) (sym (cut.cells k q cell lt) ∙ h)).0

  act_in_part : (a : ClaimAct) (cell : Cell) → claims_cell sheets a cell ≡ true → in_spans (part (claimed sets a) (quadrant_at half cell.row cell.col)) cell ≡ true
  act_in_part (act.Claim k) cell h = in_part k cell h
  act_in_part (act.Free t) cell h = absurd (differ (sym h))

  act_in_whole : (a : ClaimAct) (q : ℕ) (cell : Cell) → q < 4 → in_spans (part (claimed sets a) q) cell ≡ true → claims_cell sheets a cell ≡ true
  act_in_whole (act.Claim k) q cell lt h = in_whole k q cell lt h
  act_in_whole (act.Free t) q cell lt h = absurd (differ (sym h))

  shared_in : (k q : ℕ) (a : ClaimAct) → q < 4 → meets_in (set_at sets k) q (claimed sets a) ≡ true → (cell : Cell) × (in_spans (spans_at sheets k) cell ≡ true) × (claims_cell sheets a cell ≡ true)
  shared_in k q a lt h = let c = spans_share (part (set_at sets k) q) (part (claimed sets a) q) h in (c.0, in_whole k q c.0 lt c.1, act_in_whole a q c.0 lt c.2)

  shared : (k : ℕ) (a : ClaimAct) → meets (set_at sets k) (claimed sets a) ≡ true → (cell : Cell) × (in_spans (spans_at sheets k) cell ≡ true) × (claims_cell sheets a cell ≡ true)
  shared k a h = at (four_parts (meets_in (set_at sets k) 0 (claimed sets a)) (meets_in (set_at sets k) 1 (claimed sets a)) (meets_in (set_at sets k) 2 (claimed sets a)) (meets_in (set_at sets k) 3 (claimed sets a)) h)
    where
      at : (meets_in (set_at sets k) 0 (claimed sets a) ≡ true) ⊎ ((meets_in (set_at sets k) 1 (claimed sets a) ≡ true) ⊎ ((meets_in (set_at sets k) 2 (claimed sets a) ≡ true) ⊎ (meets_in (set_at sets k) 3 (claimed sets a) ≡ true))) → (cell : Cell) × (in_spans (spans_at sheets k) cell ≡ true) × (claims_cell sheets a cell ≡ true)
      at (inl e) = shared_in k 0 a (omega arith) e
      at (inr (inl e)) = shared_in k 1 a (omega arith) e
      at (inr (inr (inl e))) = shared_in k 2 a (omega arith) e
      at (inr (inr (inr e))) = shared_in k 3 a (omega arith) e

  -- a claim that meets one of those that stand
  meets_some : (k : ℕ) (standing : List ClaimEntry) → list_any (λ f. meets (set_at sets k) (claimed sets f.act)) standing ≡ true → (cell : Cell) × (in_spans (spans_at sheets k) cell ≡ true) × (is_claimed sheets standing cell ≡ true)
  meets_some k [] h = absurd (differ (sym h))
  meets_some k (f ∷ fs) h = at (or_either (meets (set_at sets k) (claimed sets f.act)) (list_any (λ f. meets (set_at sets k) (claimed sets f.act)) fs) h) (λ r. meets_some k fs r)
    where
      at : (meets (set_at sets k) (claimed sets f.act) ≡ true) ⊎ (list_any (λ f. meets (set_at sets k) (claimed sets f.act)) fs ≡ true)
          → (list_any (λ f. meets (set_at sets k) (claimed sets f.act)) fs ≡ true → (cell : Cell) × (in_spans (spans_at sheets k) cell ≡ true) × (is_claimed sheets fs cell ≡ true)) → (cell : Cell) × (in_spans (spans_at sheets k) cell ≡ true) × (is_claimed sheets (f ∷ fs) cell ≡ true)
      at (inl e) r = let c = shared k f.act e in (c.0, c.1, or_left (is_claimed sheets fs c.0) c.2)
      at (inr e) r = let c = r e in (c.0, c.1, or_right (claims_cell sheets f.act c.0) c.2)

  none_claimed : (k : ℕ) (standing : List ClaimEntry) → true ≡ not (list_any (λ f. meets (set_at sets k) (claimed sets f.act)) standing) → (cell : Cell) → in_spans (spans_at sheets k) cell ≡ true → is_claimed sheets standing cell ≡ false
  none_claimed k standing e cell h = at (is_claimed sheets standing cell) refl
    where
      at : (b : Bool) → is_claimed sheets standing cell ≡ b → is_claimed sheets standing cell ≡ false
      at false c = c
      at true c =
          let q = quadrant_at half cell.row cell.col in
          let lt = below_four (nat_le half cell.row) (nat_le half cell.col) in
          let met : list_any (λ (f : ClaimEntry). meets (set_at sets k) (claimed sets f.act)) standing ≡ true = any_map (λ (f : ClaimEntry). claims_cell sheets f.act cell) (λ f. meets (set_at sets k) (claimed sets f.act)) standing
          (λ f hf. meets_by (set_at sets k) (claimed sets f.act) q lt (spans_met (part (set_at sets k) q) (part (claimed sets f.act) q) cell (in_part k cell h) (act_in_part f.act cell hf))) c in absurd (differ (e ∙ ap not met))

  is_answer : (standing : List ClaimEntry) (caller : ℕ) (a : ClaimAct) (b : Bool) → b ≡ answer sets standing caller a → IsAnswer sheets standing caller a b
  is_answer standing caller (act.Claim k) true e = none_claimed k standing e
  is_answer standing caller (act.Claim k) false e = meets_some k standing (not_false (list_any (λ f. meets (set_at sets k) (claimed sets f.act)) standing) e)
    where
      not_false : (b : Bool) → false ≡ not b → b ≡ true
      not_false true h = refl
      not_false false h = absurd (differ (sym h))
  is_answer standing caller (act.Free t) granted e = e

  pub history_from : (standing log : List ClaimEntry) (n : ℕ) → IsLegalFrom sets standing n log → IsHistoryFrom sheets standing n log
  history_from standing [] n l = tt
  history_from standing (e ∷ es) n l = (l.0, is_answer standing e.caller e.act e.yes l.1, history_from (stood standing e) es (suc n) l.2)
