-- Stays are the longest runs of neighbouring steps.
use Rattle.std.proofs.Common.{◌≡◌, ◌⊎◌, inl, inr, ◌+◌, ◌<◌, ◌≤◌, true, false, List, [], ◌∷◌, arith, refl, sym, subst, ◌∙◌, ◌↔◌, true≢false}
use Rattle.std.specs.Prelude.{◌&&◌, ◌==◌}
use Rattle.std.proofs.lemmas.Bool.{cases_Bool, eqb-true, eq-eqb}
use Rattle.std.proofs.Math.Decide.{dec_lt}
use Rattle.aim_geometry.specs.Cells.{Cell}
use Rattle.aim_rules.specs.Cells.{IsIn}
use Rattle.aim_rules.proofs.TestLemmas.{and_left, and_right}
use Rattle.aim_safety.specs.Tiles.{IsRising, Precedes}
use Rattle.aim_report.specs.declared.stays.Stay.{Stay}
use Rattle.aim_report.specs.Stays.{AreCovering, Covers, IsLongest, goes_on, longer, stay_of, stays, stays_after}

abbrev pub end_of : Stay → Cell
end_of s = record { row = s.row; col = s.col; step = s.last }

abbrev pub start_of : Stay → Cell
start_of s = record { row = s.row; col = s.col; step = s.first }

cell_same : (c d : Cell) → c.row ≡ d.row → c.col ≡ d.col → c.step ≡ d.step → c ≡ d
cell_same c d r k s = λ j. record { row = r j; col = k j; step = s j }

-- the cell is the stay's tile in the step behind it
record Goes (s : Stay) (c : Cell) : Type 0 where
  row : s.row ≡ c.row
  col : s.col ≡ c.col
  step : c.step ≡ s.last + 1

goes : (s : Stay) (c : Cell) → goes_on s c ≡ true → Goes s c
goes s c e =
    let last = and_right (s.row == c.row && s.col == c.col) (c.step == s.last + 1) e in
    let tile = and_left (s.row == c.row && s.col == c.col) (c.step == s.last + 1) e in record {
      row = eqb-true s.row c.row (and_left (s.row == c.row) (s.col == c.col) tile);
      col = eqb-true s.col c.col (and_right (s.row == c.row) (s.col == c.col) tile);
      step = eqb-true c.step (s.last + 1) last;
    }

goes_back : (s : Stay) (c : Cell) → Goes s c → goes_on s c ≡ true
goes_back s c g = rw (eq-eqb s.row c.row g.row, eq-eqb s.col c.col g.col, eq-eqb c.step (s.last + 1) g.step) refl

-- what the longer stay has
longer_has : (s : Stay) (d c : Cell) → Goes s d → s.first ≤ s.last → Covers (longer s d) c ↔ (Covers s c ⊎ (c ≡ d))
longer_has s d c g o = (ahead, back)
  where
    ahead : Covers (longer s d) c → Covers s c ⊎ (c ≡ d)
    ahead v =
        let row = v.row in let col = v.col in let after = v.after in let before = v.before in let gr = g.row in let gc = g.col in let gs = g.step in
        elim (dec_lt s.last c.step) [
          | yes late ↦ inr (cell_same c d (sym row ∙ gr) (sym col ∙ gc) (omega arith))
          | no not ↦ inl (record { row = row; col = col; after = after; before = omega arith })
        ]

    back : Covers s c ⊎ (c ≡ d) → Covers (longer s d) c
    back (inl v) = let before = v.before in let gs = g.step in record { row = v.row; col = v.col; after = v.after; before = omega arith }
    back (inr e) = let gs = g.step in subst (λ x. Covers (longer s d) x) (sym e) (record { row = g.row; col = g.col; after = omega arith; before = omega arith })

single_has : (d c : Cell) → Covers (stay_of d) c ↔ (c ≡ d)
single_has d c = (
  λ v. let after = v.after in let before = v.before in cell_same c d (sym v.row) (sym v.col) (omega arith),
  λ e. subst (λ x. Covers (stay_of d) x) (sym e) (record { row = refl; col = refl; after = omega arith; before = omega arith }),
)

longer_order : (s : Stay) (d : Cell) → Goes s d → s.first ≤ s.last → (longer s d).first ≤ (longer s d).last
longer_order s d g o = let gs = g.step in omega arith

-- the stays have just the cells
cover : (s : Stay) (cs : List Cell) (c : Cell) → s.first ≤ s.last → AreCovering (stays_after s cs) c ↔ (Covers s c ⊎ IsIn c cs)
cover s [] c o = (λ e. e, λ e. e)
cover s (d ∷ cs) c o =
    elim (cases_Bool (goes_on s d)) [
      | inl is ↦ rw is (on (goes s d is) (cover (longer s d) cs c (longer_order s d (goes s d is) o)))
      | inr not ↦ rw not (off (cover (stay_of d) cs c (omega arith)))
    ]
  where
    on : Goes s d → AreCovering (stays_after (longer s d) cs) c ↔ (Covers (longer s d) c ⊎ IsIn c cs) → AreCovering (stays_after (longer s d) cs) c ↔ (Covers s c ⊎ IsIn c (d ∷ cs))
    on g h = (λ a. ahead (h.0 a), λ b. h.1 (back b))
      where
        ahead : Covers (longer s d) c ⊎ IsIn c cs → Covers s c ⊎ IsIn c (d ∷ cs)
        ahead (inl v) = elim ((longer_has s d c g o).0 v) [
          | inl w ↦ inl w
          | inr e ↦ inr (inl e)
        ]
        ahead (inr m) = inr (inr m)

        back : Covers s c ⊎ IsIn c (d ∷ cs) → Covers (longer s d) c ⊎ IsIn c cs
        back (inl v) = inl ((longer_has s d c g o).1 (inl v))
        back (inr (inl e)) = inl ((longer_has s d c g o).1 (inr e))
        back (inr (inr m)) = inr m

    off : AreCovering (stays_after (stay_of d) cs) c ↔ (Covers (stay_of d) c ⊎ IsIn c cs) → (Covers s c ⊎ AreCovering (stays_after (stay_of d) cs) c) ↔ (Covers s c ⊎ IsIn c (d ∷ cs))
    off h = (ahead, back)
      where
        ahead : Covers s c ⊎ AreCovering (stays_after (stay_of d) cs) c → Covers s c ⊎ IsIn c (d ∷ cs)
        ahead (inl v) = inl v
        ahead (inr a) = elim (h.0 a) [
          | inl w ↦ inr (inl ((single_has d c).0 w))
          | inr m ↦ inr (inr m)
        ]

        back : Covers s c ⊎ IsIn c (d ∷ cs) → Covers s c ⊎ AreCovering (stays_after (stay_of d) cs) c
        back (inl v) = inl v
        back (inr (inl e)) = inr (h.1 (inl ((single_has d c).1 e)))
        back (inr (inr m)) = inr (h.1 (inr m))

-- no stay is empty
ordered : (s : Stay) (cs : List Cell) (t : Stay) → s.first ≤ s.last → IsIn t (stays_after s cs) → t.first ≤ t.last
ordered s [] t o (inr m) = elim m [ ]
ordered s [] t o (inl e) = subst (λ x. x.first ≤ x.last) (sym e) o
ordered s (d ∷ cs) t o m =
    elim (cases_Bool (goes_on s d)) [
      | inl is ↦ ordered (longer s d) cs t (longer_order s d (goes s d is) o) (rw is at m)
      | inr not ↦ off (rw not at m) (λ n. ordered (stay_of d) cs t (omega arith) n)
    ]
  where
    off : (t ≡ s) ⊎ IsIn t (stays_after (stay_of d) cs) → (IsIn t (stays_after (stay_of d) cs) → t.first ≤ t.last) → t.first ≤ t.last
    off (inl e) later = subst (λ x. x.first ≤ x.last) (sym e) o
    off (inr n) later = later n

covering : (ts : List Stay) (t : Stay) (c : Cell) → IsIn t ts → Covers t c → AreCovering ts c
covering [] t c m v = elim m [ ]
covering (x ∷ ts) t c (inl e) v = inl (subst (λ y. Covers y c) e v)
covering (x ∷ ts) t c (inr m) v = inr (covering ts t c m v)

-- on one tile, what precedes is earlier
earlier : (c d : Cell) → Precedes c d → c.row ≡ d.row → c.col ≡ d.col → c.step < d.step
earlier c d (inl a) r k = omega (arith, a, r)
earlier c d (inr (inl a)) r k = let low = a.1 in omega (arith, low, k)
earlier c d (inr (inr a)) r k = a.2

-- nothing stands between a tile's step and its next one
between : (c d e : Cell) → Precedes c d → Precedes d e → c.row ≡ e.row → c.col ≡ e.col → e.step ≡ c.step + 1 → ⊥
between c d e (inl a) (inl b) r k t = omega (arith, a, b, r)
between c d e (inl a) (inr (inl b)) r k t = let br = b.0 in omega (arith, a, br, r)
between c d e (inl a) (inr (inr b)) r k t = let br = b.0 in omega (arith, a, br, r)
between c d e (inr (inl a)) (inl b) r k t = let ar = a.0 in omega (arith, ar, b, r)
between c d e (inr (inl a)) (inr (inl b)) r k t = let ak = a.1 in let bk = b.1 in omega (arith, ak, bk, k)
between c d e (inr (inl a)) (inr (inr b)) r k t = let ak = a.1 in let bk = b.1 in omega (arith, ak, bk, k)
between c d e (inr (inr a)) (inl b) r k t = let ar = a.0 in omega (arith, ar, b, r)
between c d e (inr (inr a)) (inr (inl b)) r k t = let ak = a.1 in let bk = b.1 in omega (arith, ak, bk, k)
between c d e (inr (inr a)) (inr (inr b)) r k t = let s = a.2 in let u = b.2 in omega (arith, s, u, t)

-- the cell is the step before a stay or the one behind it, on the stay's tile
record Next (s : Stay) (c : Cell) : Type 0 where
  row : s.row ≡ c.row
  col : s.col ≡ c.col
  step : (c.step + 1 ≡ s.first) ⊎ (c.step ≡ s.last + 1)

-- a stay has no cell beside it
lone : (s : Stay) (c : Cell) → s.first ≤ s.last → Covers s c → Next s c → ⊥
lone s c o v n = go n.step
  where
    go : (c.step + 1 ≡ s.first) ⊎ (c.step ≡ s.last + 1) → ⊥
    go (inl e) = let a = v.after in omega (arith, a, e)
    go (inr e) = let b = v.before in omega (arith, b, e)

-- beside a stay that ends before the cell d, with which it doesn't go on, no cell from d on stands
apart_behind : (s : Stay) (d : Cell) (cs : List Cell) (c : Cell) → s.first ≤ s.last → goes_on s d ≡ false → IsRising (end_of s ∷ d ∷ cs) → IsIn c (d ∷ cs) → Next s c → ⊥
apart_behind s d cs c o not r m n = go n.step m
  where
    late : s.last < c.step
    late = earlier (end_of s) c (r.0 c m) n.row n.col

    go : (c.step + 1 ≡ s.first) ⊎ (c.step ≡ s.last + 1) → IsIn c (d ∷ cs) → ⊥
    go (inl e) m = let l = late in omega (arith, l, e, o)
    go (inr e) (inl same) =
        let g : Goes s d = subst (λ x. Goes s x) same (record { row = n.row; col = n.col; step = e }) in
        true≢false (sym (goes_back s d g) ∙ not)
    go (inr e) (inr later) = between (end_of s) d c (r.0 d (inl refl)) (r.1.0 c later) n.row n.col e

-- beside a stay from the cell d on, none of those stands that an earlier stay has, which doesn't go on with d
apart_before : (s : Stay) (d : Cell) (cs : List Cell) (t : Stay) (c : Cell) → s.first ≤ s.last → goes_on s d ≡ false → IsRising (end_of s ∷ d ∷ cs) → IsIn (start_of t) (d ∷ cs) → t.first ≤ t.last → Covers s c → Next t c → ⊥
apart_before s d cs t c o not r m p v n = go n.step
  where
    row : s.row ≡ t.row
    row = v.row ∙ sym n.row

    col : s.col ≡ t.col
    col = v.col ∙ sym n.col

    late : s.last < t.first
    late = earlier (end_of s) (start_of t) (r.0 (start_of t) m) row col

    go : (c.step + 1 ≡ t.first) ⊎ (c.step ≡ t.last + 1) → ⊥
    go (inl e) =
        let l = late in let b = v.before in
        apart_behind s d cs (start_of t) o not r m (record { row = row; col = col; step = inr (omega (arith, l, b, e)) })
    go (inr e) = let l = late in let b = v.before in omega (arith, l, b, e, p)

-- no cell of those that the stays have stands beside one of them
apart : (s : Stay) (cs : List Cell) (t : Stay) (c : Cell) → s.first ≤ s.last → IsRising (end_of s ∷ cs) → IsIn t (stays_after s cs) → Covers s c ⊎ IsIn c cs → Next t c → ⊥
apart s [] t c o r (inl e) (inr i) n = elim i [ ]
apart s [] t c o r (inr m) k n = elim m [ ]
apart s [] t c o r (inl e) (inl v) n = lone s c o v (subst (λ x. Next x c) e n)
apart s (d ∷ cs) t c o r m k n =
    elim (cases_Bool (goes_on s d)) [
      | inl is ↦
          let g = goes s d is in
          let ends : end_of (longer s d) ≡ d = cell_same (end_of (longer s d)) d g.row g.col refl in
          apart (longer s d) cs t c (longer_order s d g o) (subst (λ x. IsRising (x ∷ cs)) (sym ends) r.1) (rw is at m) (held g k) n
      | inr not ↦ off not (rw not at m) k (λ i h. apart (stay_of d) cs t c (omega arith) r.1 i h n)
    ]
  where
    held : Goes s d → Covers s c ⊎ IsIn c (d ∷ cs) → Covers (longer s d) c ⊎ IsIn c cs
    held g (inl v) = inl ((longer_has s d c g o).1 (inl v))
    held g (inr (inl e)) = inl ((longer_has s d c g o).1 (inr e))
    held g (inr (inr i)) = inr i

    from : Covers (stay_of d) (start_of t) ⊎ IsIn (start_of t) cs → IsIn (start_of t) (d ∷ cs)
    from (inl v) = inl ((single_has d (start_of t)).0 v)
    from (inr i) = inr i

    off : goes_on s d ≡ false → (t ≡ s) ⊎ IsIn t (stays_after (stay_of d) cs) → Covers s c ⊎ IsIn c (d ∷ cs) → (IsIn t (stays_after (stay_of d) cs) → Covers (stay_of d) c ⊎ IsIn c cs → ⊥) → ⊥
    off not (inl e) (inl v) later = lone s c o v (subst (λ x. Next x c) e n)
    off not (inl e) (inr i) later = apart_behind s d cs c o not r i (subst (λ x. Next x c) e n)
    off not (inr w) (inl v) later =
        let p = ordered (stay_of d) cs t (omega arith) w in
        let start : Covers t (start_of t) = record { row = refl; col = refl; after = omega arith; before = p } in
        let there = (cover (stay_of d) cs (start_of t) (omega arith)).0 (covering (stays_after (stay_of d) cs) t (start_of t) w start) in
        apart_before s d cs t c o not r (from there) p v n
    off not (inr w) (inr (inl e)) later = later w (inl ((single_has d c).1 e))
    off not (inr w) (inr (inr i)) later = later w (inr i)

pub stays_cover : (cells : List Cell) (c : Cell) → IsRising cells → IsIn c cells ↔ AreCovering (stays cells) c
stays_cover [] c r = (λ m. m, λ a. a)
stays_cover (d ∷ cs) c r = (λ m. h.1 (to m), λ a. from (h.0 a))
  where
    h : AreCovering (stays_after (stay_of d) cs) c ↔ (Covers (stay_of d) c ⊎ IsIn c cs)
    h = cover (stay_of d) cs c (omega arith)

    to : IsIn c (d ∷ cs) → Covers (stay_of d) c ⊎ IsIn c cs
    to (inl e) = inl ((single_has d c).1 e)
    to (inr m) = inr m

    from : Covers (stay_of d) c ⊎ IsIn c cs → IsIn c (d ∷ cs)
    from (inl v) = inl ((single_has d c).0 v)
    from (inr m) = inr m

-- a cell that a stay has
pub stay_has : (cells : List Cell) (s : Stay) (c : Cell) → IsRising cells → IsIn s (stays cells) → Covers s c → IsIn c cells
stay_has cells s c r m v = (stays_cover cells c r).1 (covering (stays cells) s c m v)

-- no stay is empty
pub stay_order : (cells : List Cell) (s : Stay) → IsIn s (stays cells) → s.first ≤ s.last
stay_order [] s m = elim m [ ]
stay_order (d ∷ cs) s m = ordered (stay_of d) cs s (omega arith) m

pub stays_longest : (cells : List Cell) (s : Stay) → IsRising cells → IsIn s (stays cells) → IsLongest s cells
stays_longest [] s r m = elim m [ ]
stays_longest (d ∷ cs) s r m = record {
  before = λ c row col e i. apart (stay_of d) cs s c (omega arith) r m (to c i) (record { row = row; col = col; step = inl e });
  behind = λ c row col e i. apart (stay_of d) cs s c (omega arith) r m (to c i) (record { row = row; col = col; step = inr e });
}
  where
    to : (c : Cell) → IsIn c (d ∷ cs) → Covers (stay_of d) c ⊎ IsIn c cs
    to c (inl e) = inl ((single_has d c).1 e)
    to c (inr i) = inr i
