-- Spans and sets that have a cell in common.
use Rattle.std.proofs.Common.{◌≡◌, ℕ, ◌==◌, Bool, true, false, ◌&&◌, ◌||◌, not, List, [], ◌∷◌, refl, sym, ap, ◌∙◌, ◌⊎◌, inl, inr}
use Rattle.std.specs.Prelude.{bit_and}
use Rattle.std.specs.List.{list_any}
use Rattle.std.proofs.lemmas.Bool.{eqb-true, eq-eqb, and_parts, and_from}
use Rattle.aim_sheets.specs.declared.spans.Span.{Span}
use Rattle.aim_geometry.specs.Cells.{Cell, cell_at}
use Rattle.aim_geometry.specs.Rects.{has_bit}
use Rattle.aim_sheets.specs.Spans.{is_at, in_span, in_spans}
use Rattle.aim_geometry.proofs.Bits.{has_bit_and}
use Rattle.aim_sheets.proofs.Masks.{no_bit}
use Rattle.aim_sheets.proofs.Order.{is_at_parts}
use Rattle.aim_tiles.proofs.Writes.{some_column}
use Rattle.aim_shards.specs.Sets.{Quarters, part, is_some, has_cells, is_empty, lies_in, span_meets, spans_meet, meets_in, meets}

pub differ : true ≡ false → ⊥
differ e = cc

pub any_none : {A : Type 0} (p : A → Bool) (xs : List A) → ((x : A) → p x ≡ false) → list_any p xs ≡ false
any_none p [] h = refl
any_none p (x ∷ xs) h = rw (h x) (any_none p xs h)

-- a test that passes wherever another one does
pub any_map : {A : Type 0} (p r : A → Bool) (xs : List A) → ((x : A) → p x ≡ true → r x ≡ true) → list_any p xs ≡ true → list_any r xs ≡ true
any_map p r [] h a = a
any_map p r (x ∷ xs) h a = at (p x) refl (λ g. any_map p r xs h g)
  where
    at : (b : Bool) → p x ≡ b → (list_any p xs ≡ true → list_any r xs ≡ true) → list_any r (x ∷ xs) ≡ true
    at true e g = rw (h x e) refl
    at false e g = or_right (r x) (g (rw e at a))
      where
        or_right : (b : Bool) {c : Bool} → c ≡ true → (b || c) ≡ true
        or_right true e = refl
        or_right false e = e

pub or_either : (b c : Bool) → (b || c) ≡ true → (b ≡ true) ⊎ (c ≡ true)
or_either true c h = inl refl
or_either false c h = inr h

pub or_right : (b : Bool) {c : Bool} → c ≡ true → (b || c) ≡ true
or_right true e = refl
or_right false e = e

pub or_left : {b : Bool} (c : Bool) → b ≡ true → (b || c) ≡ true
or_left c e = ap (λ x. x || c) e

pub nothing_meets : (a : List Span) → spans_meet a [] ≡ false
nothing_meets a = any_none (λ s. list_any (λ t. span_meets s t) []) a (λ s. refl)

-- two spans with a cell in common
pub span_shares : (s t : Span) → span_meets s t ≡ true → (cell : Cell) × (in_span s cell ≡ true) × (in_span t cell ≡ true)
span_shares s t h =
    let parts = and_parts (is_at s t.step t.row) (not (bit_and s.mask t.mask == 0)) h in
    let c = some_column (bit_and s.mask t.mask) (λ e. differ (sym (parts.1) ∙ ap not (eq-eqb (bit_and s.mask t.mask) 0 e))) in
    let both = and_parts (has_bit s.mask c.0) (has_bit t.mask c.0) (sym (has_bit_and s.mask t.mask c.0) ∙ c.1) in (
      cell_at t.step t.row c.0,
      and_from (is_at s t.step t.row) (has_bit s.mask c.0) parts.0 both.0,
      and_from (is_at t t.step t.row) (has_bit t.mask c.0) (and_from (t.step == t.step) (t.row == t.row) (eq-eqb t.step t.step refl) (eq-eqb t.row t.row refl)) both.1,
    )

-- and a cell of both says that they meet
pub span_met : (s t : Span) (cell : Cell) → in_span s cell ≡ true → in_span t cell ≡ true → span_meets s t ≡ true
span_met s t cell hs ht =
    let a = and_parts (is_at s cell.step cell.row) (has_bit s.mask cell.col) hs in
    let b = and_parts (is_at t cell.step cell.row) (has_bit t.mask cell.col) ht in
    let p = is_at_parts s cell.step cell.row a.0 in
    let r = is_at_parts t cell.step cell.row b.0 in
    let bit : has_bit (bit_and s.mask t.mask) cell.col ≡ true = has_bit_and s.mask t.mask cell.col ∙ and_from (has_bit s.mask cell.col) (has_bit t.mask cell.col) a.1 b.1 in
    and_from (is_at s t.step t.row) (not (bit_and s.mask t.mask == 0)) (and_from (s.step == t.step) (s.row == t.row) (eq-eqb s.step t.step (p.0 ∙ sym r.0)) (eq-eqb s.row t.row (p.1 ∙ sym r.1))) (at (bit_and s.mask t.mask == 0) refl bit)
  where
    at : (c : Bool) → (bit_and s.mask t.mask == 0) ≡ c → has_bit (bit_and s.mask t.mask) cell.col ≡ true → not (bit_and s.mask t.mask == 0) ≡ true
    at true e bit = absurd (differ (sym bit ∙ (ap (λ m. has_bit m cell.col) (eqb-true (bit_and s.mask t.mask) 0 e) ∙ no_bit cell.col)))
    at false e bit = ap not e

pub spans_met : (a b : List Span) (cell : Cell) → in_spans a cell ≡ true → in_spans b cell ≡ true → spans_meet a b ≡ true
spans_met a b cell ha hb = any_map (λ s. in_span s cell) (λ s. list_any (λ t. span_meets s t) b) a (λ s hs. any_map (λ t. in_span t cell) (λ t. span_meets s t) b (λ t ht. span_met s t cell hs ht) hb) ha

one_shares : (s : Span) (b : List Span) → list_any (λ t. span_meets s t) b ≡ true → (cell : Cell) × (in_span s cell ≡ true) × (in_spans b cell ≡ true)
one_shares s [] h = absurd (differ (sym h))
one_shares s (t ∷ b) h = at (or_either (span_meets s t) (list_any (λ t. span_meets s t) b) h) (λ g. one_shares s b g)
  where
    at : (span_meets s t ≡ true) ⊎ (list_any (λ t. span_meets s t) b ≡ true) → (list_any (λ t. span_meets s t) b ≡ true → (cell : Cell) × (in_span s cell ≡ true) × (in_spans b cell ≡ true)) → (cell : Cell) × (in_span s cell ≡ true) × (in_spans (t ∷ b) cell ≡ true)
    at (inl e) g = let c = span_shares s t e in (c.0, c.1, or_left (in_spans b c.0) c.2)
    at (inr e) g = let c = g e in (c.0, c.1, or_right (in_span t c.0) c.2)

pub spans_share : (a b : List Span) → spans_meet a b ≡ true → (cell : Cell) × (in_spans a cell ≡ true) × (in_spans b cell ≡ true)
spans_share [] b h = absurd (differ (sym h))
spans_share (s ∷ a) b h = at (or_either (list_any (λ t. span_meets s t) b) (spans_meet a b) h) (λ g. spans_share a b g)
  where
    at : (list_any (λ t. span_meets s t) b ≡ true) ⊎ (spans_meet a b ≡ true) → (spans_meet a b ≡ true → (cell : Cell) × (in_spans a cell ≡ true) × (in_spans b cell ≡ true)) → (cell : Cell) × (in_spans (s ∷ a) cell ≡ true) × (in_spans b cell ≡ true)
    at (inl e) g = let c = one_shares s b e in (c.0, or_left (in_spans a c.0) c.1, c.2)
    at (inr e) g = let c = g e in (c.0, or_right (in_span s c.0) c.1, c.2)

-- spans that meet those of one of many
pub any_shares : {F : Type 0} (g : F → List Span) (a : List Span) (fs : List F) → list_any (λ f. spans_meet a (g f)) fs ≡ true → (cell : Cell) × (in_spans a cell ≡ true) × (list_any (λ f. in_spans (g f) cell) fs ≡ true)
any_shares {F} g a [] h = absurd (differ (sym h))
any_shares {F} g a (f ∷ fs) h = at (or_either (spans_meet a (g f)) (list_any (λ f. spans_meet a (g f)) fs) h) (λ r. any_shares g a fs r)
  where
    at : (spans_meet a (g f) ≡ true) ⊎ (list_any (λ f. spans_meet a (g f)) fs ≡ true) → (list_any (λ f. spans_meet a (g f)) fs ≡ true → (cell : Cell) × (in_spans a cell ≡ true) × (list_any (λ f. in_spans (g f) cell) fs ≡ true)) → (cell : Cell) × (in_spans a cell ≡ true) × (list_any (λ f. in_spans (g f) cell) (f ∷ fs) ≡ true)
    at (inl e) r = let c = spans_share a (g f) e in (c.0, c.1, or_left (list_any (λ f. in_spans (g f) c.0) fs) c.2)
    at (inr e) r = let c = r e in (c.0, c.1, or_right (in_spans (g f) c.0) c.2)

pub any_met : {F : Type 0} (g : F → List Span) (a : List Span) (fs : List F) (cell : Cell) → in_spans a cell ≡ true → list_any (λ f. in_spans (g f) cell) fs ≡ true → list_any (λ f. spans_meet a (g f)) fs ≡ true
any_met g a fs cell h c = any_map (λ f. in_spans (g f) cell) (λ f. spans_meet a (g f)) fs (λ f hf. spans_met a (g f) cell h hf) c

both_tests : (b c : Bool) → (b ≡ true → c ≡ true) → (c ≡ true → b ≡ true) → b ≡ c
both_tests true true to from = refl
both_tests true false to from = sym (to refl)
both_tests false true to from = from refl
both_tests false false to from = refl

pub spans_meet_turned : (a b : List Span) → spans_meet a b ≡ spans_meet b a
spans_meet_turned a b = both_tests (spans_meet a b) (spans_meet b a) (λ h. let c = spans_share a b h in spans_met b a c.0 c.2 c.1) (λ h. let c = spans_share b a h in spans_met a b c.0 c.2 c.1)

pub meets_turned : (a b : Quarters) → meets a b ≡ meets b a
meets_turned a b = λ i. spans_meet_turned (part a 0) (part b 0) i || (spans_meet_turned (part a 1) (part b 1) i || (spans_meet_turned (part a 2) (part b 2) i || spans_meet_turned (part a 3) (part b 3) i))

-- a set that meets another one in a quadrant has cells there, and so has the other
pub met_in : (a : Quarters) (q : ℕ) (b : Quarters) → meets_in a q b ≡ true → lies_in b q ≡ true
met_in a q b h = at (part b q) refl
  where
    at : (l : List Span) → part b q ≡ l → lies_in b q ≡ true
    at [] e = absurd (differ (sym h ∙ (ap (spans_meet (part a q)) e ∙ nothing_meets (part a q))))
    at (s ∷ l) e = ap (λ k. is_some k || (is_empty b && (q == 0))) e

pub unmet_in : (a : Quarters) (q : ℕ) (b : Quarters) → has_cells a q ≡ false → meets_in a q b ≡ false
unmet_in a q b h = at (part a q) refl
  where
    at : (l : List Span) → part a q ≡ l → meets_in a q b ≡ false
    at [] e = ap (λ k. spans_meet k (part b q)) e
    at (s ∷ l) e = absurd (differ (sym (ap is_some e) ∙ h))
