-- Claim histories.
use Rattle.std.specs.Prelude.{◌≡◌, ℕ, suc, ◌==◌, Bool, true, false, ◌&&◌, ◌||◌, not, List, [], ◌∷◌, ◌++◌, filter, if◌then◌else◌}
use Rattle.std.specs.List.{list_any}
use Rattle.aim_geometry.specs.Cells.{Cell}
use Rattle.aim_sheets.specs.Spans.{in_spans}
use Rattle.aim_shards.specs.declared.claims.ClaimAct.{ClaimAct}
use Rattle.aim_shards.specs.declared.claims.ClaimAct.TheVariants as act
use Rattle.aim_shards.specs.declared.claims.ClaimEntry.{ClaimEntry}
use Rattle.aim_shards.specs.declared.view.QuadrantTurn.{QuadrantTurn}
use Rattle.aim_shards.specs.Sets.{Quarters, SameParts, part, set_at, lies_in, meets_in, meets}

-- the claims that stand after the act, which was answered so
abbrev pub after_act : List ClaimEntry → ClaimEntry → ClaimAct → Bool → List ClaimEntry
after_act standing e (act.Claim k) true = standing ++ e ∷ []
after_act standing e (act.Free t) true = filter (λ f. not (f.ticket == t)) standing
after_act standing e a false = standing

abbrev pub stood : List ClaimEntry → ClaimEntry → List ClaimEntry
stood standing e = after_act standing e e.act e.yes

-- the claims that stand after the entries: those that were answered yes and were not freed
abbrev pub stands : List ClaimEntry → List ClaimEntry → List ClaimEntry
stands standing [] = standing
stands standing (e ∷ es) = stands (stood standing e) es

-- the set that the act claims
abbrev pub claimed : List Quarters → ClaimAct → Quarters
claimed sets (act.Claim k) = set_at sets k
claimed sets (act.Free t) = []

-- whether the entry claimed a set with which a claim touches the quadrant
abbrev pub is_in : List Quarters → ℕ → ClaimEntry → Bool
is_in sets q f = lies_in (claimed sets f.act) q

-- whether the cell is in the quadrant one of a standing claim's
abbrev pub covers : List Quarters → ℕ → List ClaimEntry → Cell → Bool
covers sets q standing cell = list_any (λ f. in_spans (part (claimed sets f.act) q) cell) standing

-- whether the set's cells are free in the quadrant, where it has these entries
abbrev pub is_free_in : List Quarters → Quarters → ℕ → List ClaimEntry → Bool
is_free_in sets set q seen = not (list_any (λ f. meets_in set q (claimed sets f.act)) (stands [] seen))

-- the answer, where these claims stand
abbrev pub answer : List Quarters → List ClaimEntry → ℕ → ClaimAct → Bool
answer sets standing caller (act.Claim k) = not (list_any (λ f. meets (set_at sets k) (claimed sets f.act)) standing)
answer sets standing caller (act.Free t) = list_any (λ f. (f.ticket == t) && (f.caller == caller)) standing

-- whether the call touches the quadrant, where it is answered so and these claims stand
abbrev pub touches : List Quarters → List ClaimEntry → ClaimAct → Bool → ℕ → Bool
touches sets standing (act.Claim k) granted q = lies_in (set_at sets k) q
touches sets standing (act.Free t) true q = list_any (λ f. (f.ticket == t) && is_in sets q f) standing
touches sets standing (act.Free t) false q = q == 0

-- the entries that touch the quadrant
abbrev pub touching : List Quarters → ℕ → List ClaimEntry → List ClaimEntry → List ClaimEntry
touching sets q standing [] = []
touching sets q standing (e ∷ es) = if touches sets standing e.act e.yes q then e ∷ touching sets q (stood standing e) es else touching sets q (stood standing e) es

-- a legal claim history, where these claims stand before it, whose tickets are the numbers from n on
abbrev pub IsLegalFrom : List Quarters → List ClaimEntry → ℕ → List ClaimEntry → Type 0
IsLegalFrom sets standing n [] = Unit {0}
IsLegalFrom sets standing n (e ∷ es) = (e.ticket ≡ n) × (e.yes ≡ answer sets standing e.caller e.act) × IsLegalFrom sets (stood standing e) (suc n) es

abbrev pub IsLegal : List Quarters → List ClaimEntry → Type 0
IsLegal sets log = IsLegalFrom sets [] 0 log

-- the entries that touch the quadrant, of a whole history
abbrev pub of_quadrant : List Quarters → ℕ → List ClaimEntry → List ClaimEntry
of_quadrant sets q log = touching sets q [] log

-- no two of these claims have a cell in common
abbrev pub AreApart : List Quarters → List ClaimEntry → Type 0
AreApart sets [] = Unit {0}
AreApart sets (f ∷ fs) = (list_any (λ g. meets (claimed sets f.act) (claimed sets g.act)) fs ≡ false) × AreApart sets fs

-- whether a claim with the ticket is among these, and its set
abbrev pub has_ticket : ℕ → List ClaimEntry → Bool
has_ticket t standing = list_any (λ f. f.ticket == t) standing

abbrev pub freed : List Quarters → ℕ → List ClaimEntry → Quarters
freed sets t [] = []
freed sets t (f ∷ fs) = if f.ticket == t then claimed sets f.act else freed sets t fs

-- the entries of the caller n, in order
abbrev pub entries_of : ℕ → List ClaimEntry → List ClaimEntry
entries_of n log = filter (λ e. e.caller == n) log

-- whether a cell is taken after an act that was answered so, where it was or was not before, and is or is not one of the
-- act's cells
abbrev pub changed : ClaimAct → Bool → Bool → Bool → Bool
changed (act.Claim k) true before here = before || here
changed (act.Free t) true before here = before && not here
changed a false before here = before

-- whether the set's cells are free in the quadrants of the turns
abbrev pub are_free : List Quarters → Quarters → List QuadrantTurn → Bool
are_free sets set [] = true
are_free sets set (t ∷ ts) = are_free sets set ts && is_free_in sets set t.quadrant t.seen

-- the set is the one that the act claims, or the one that the granted freeing frees
abbrev pub Moves : List Quarters → Quarters → List ClaimEntry → ClaimAct → Bool → Type 0
Moves sets set mine (act.Claim k) granted = SameParts set (set_at sets k)
Moves sets set mine (act.Free t) true = SameParts set (freed sets t (stands [] mine))
Moves sets set mine (act.Free t) false = Unit {0}

-- what the entry changes in a quadrant with these entries is the set's cells
pub record Changes (sets : List Quarters) (set : Quarters) (q : ℕ) (seen : List ClaimEntry) (e : ClaimEntry) : Type 0 where
  pub cells : (cell : Cell) → covers sets q (stood (stands [] seen) e) cell ≡ changed e.act e.yes (covers sets q (stands [] seen) cell) (in_spans (part set q) cell)
