-- Legal claim histories, in cells.
use Rattle.std.specs.Prelude.{◌≡◌, ℕ, suc, ◌==◌, Bool, true, false, ◌&&◌, List, [], ◌∷◌}
use Rattle.std.specs.List.{list_any}
use Rattle.aim_geometry.specs.Cells.{Cell}
use Rattle.aim_sheets.specs.Spans.{in_spans}
use Rattle.aim_sheets.specs.Sheets.{Spans}
use Rattle.aim_shards.specs.declared.claims.ClaimAct.{ClaimAct}
use Rattle.aim_shards.specs.declared.claims.ClaimAct.TheVariants as act
use Rattle.aim_shards.specs.declared.claims.ClaimEntry.{ClaimEntry}
use Rattle.aim_shards.specs.Cuts.{spans_at}
use Rattle.aim_shards.specs.Claims.{stood}

-- whether the act claims the cell
abbrev pub claims_cell : List Spans → ClaimAct → Cell → Bool
claims_cell sets (act.Claim k) cell = in_spans (spans_at sets k) cell
claims_cell sets (act.Free t) cell = false

-- whether one of the claims has the cell
abbrev pub is_claimed : List Spans → List ClaimEntry → Cell → Bool
is_claimed sets standing cell = list_any (λ f. claims_cell sets f.act cell) standing

-- Where these claims stand, a claim is answered yes exactly where no cell of its set is one of theirs. A freeing is answered
-- yes exactly where the ticket is one of the caller's own of these claims.
abbrev pub IsAnswer : List Spans → List ClaimEntry → ℕ → ClaimAct → Bool → Type 0
IsAnswer sets standing caller (act.Claim k) true = (cell : Cell) → in_spans (spans_at sets k) cell ≡ true → is_claimed sets standing cell ≡ false
IsAnswer sets standing caller (act.Claim k) false = (cell : Cell) × (in_spans (spans_at sets k) cell ≡ true) × (is_claimed sets standing cell ≡ true)
IsAnswer sets standing caller (act.Free t) granted = granted ≡ list_any (λ f. (f.ticket == t) && (f.caller == caller)) standing

-- the entries have the tickets from n on, and each is answered by the claims that stand before it: those of the list and of
-- the entries before that were answered yes and not yet freed
abbrev pub IsHistoryFrom : List Spans → List ClaimEntry → ℕ → List ClaimEntry → Type 0
IsHistoryFrom sets standing n [] = Unit {0}
IsHistoryFrom sets standing n (e ∷ es) = (e.ticket ≡ n) × IsAnswer sets standing e.caller e.act e.yes × IsHistoryFrom sets (stood standing e) (suc n) es

-- a legal claim history, whose tickets are 0, 1, 2 and so on
abbrev pub IsHistory : List Spans → List ClaimEntry → Type 0
IsHistory sets log = IsHistoryFrom sets [] 0 log
