-- Worked rows of claim histories.
use Rattle.std.proofs.Common.{◌≡◌, ℕ, Bool, true, false, List, [], ◌∷◌, refl}
use Rattle.aim_geometry.specs.Cells.{cell_at}
use Rattle.aim_sheets.specs.declared.spans.Span.{Span}
use Rattle.aim_shards.specs.declared.claims.ClaimAct.{ClaimAct}
use Rattle.aim_shards.specs.declared.claims.ClaimAct.TheVariants as act
use Rattle.aim_shards.specs.declared.claims.ClaimEntry.{ClaimEntry}
use Rattle.aim_shards.specs.Sets.{Quarters, meets, touched}
use Rattle.aim_shards.specs.Claims.{IsLegal, answer, entries_of, of_quadrant, stands}
use Rattle.aim_shards.specs.Cuts.{half_of, quadrant_at}
use Rattle.aim_shards.specs.History.{IsAnswer}

abbrev span : ℕ → ℕ → ℕ → Span
span step row mask = record { step = step; row = row; mask = mask }

-- on a grid of four rows and columns: the tiles of rows and columns 0 and 1, those of 2 and 3, and those of 1 and 2
abbrev low : Quarters
low = (span 5 0 3 ∷ span 5 1 3 ∷ []) ∷ [] ∷ [] ∷ [] ∷ []

abbrev high : Quarters
high = [] ∷ [] ∷ [] ∷ (span 5 2 12 ∷ span 5 3 12 ∷ []) ∷ []

abbrev middle : Quarters
middle = (span 5 1 2 ∷ []) ∷ (span 5 1 4 ∷ []) ∷ (span 5 2 2 ∷ []) ∷ (span 5 2 4 ∷ []) ∷ []

-- a set without cells, and the low tiles one step later
abbrev nothing : Quarters
nothing = [] ∷ [] ∷ [] ∷ [] ∷ []

abbrev later : Quarters
later = (span 6 0 3 ∷ span 6 1 3 ∷ []) ∷ [] ∷ [] ∷ [] ∷ []

abbrev sets : List Quarters
sets = low ∷ high ∷ middle ∷ nothing ∷ later ∷ []

abbrev entry : ℕ → ℕ → ClaimAct → Bool → ClaimEntry
entry ticket caller a granted = record { ticket = ticket; caller = caller; act = a; yes = granted }

-- a claim, its freeing, a claim in all quadrants, the same once more, and one that it blocks
abbrev log : List ClaimEntry
log = entry 0 0 (act.Claim 0) true ∷ entry 1 0 (act.Free 0) true ∷ entry 2 1 (act.Claim 2) true ∷ entry 3 1 (act.Claim 2) false ∷ entry 4 1 (act.Claim 1) false ∷ []

claims_of_two_callers : IsLegal sets log
claims_of_two_callers = (refl, refl, (refl, refl, (refl, refl, (refl, refl, (refl, refl, tt)))))

-- each entry stands in the lists of the quadrants that it touches
first_quadrant : of_quadrant sets 0 log ≡ entry 0 0 (act.Claim 0) true ∷ entry 1 0 (act.Free 0) true ∷ entry 2 1 (act.Claim 2) true ∷ entry 3 1 (act.Claim 2) false ∷ []
first_quadrant = refl

second_quadrant : of_quadrant sets 1 log ≡ entry 2 1 (act.Claim 2) true ∷ entry 3 1 (act.Claim 2) false ∷ []
second_quadrant = refl

fourth_quadrant : of_quadrant sets 3 log ≡ entry 2 1 (act.Claim 2) true ∷ entry 3 1 (act.Claim 2) false ∷ entry 4 1 (act.Claim 1) false ∷ []
fourth_quadrant = refl

own_entries : entries_of 0 log ≡ entry 0 0 (act.Claim 0) true ∷ entry 1 0 (act.Free 0) true ∷ []
own_entries = refl

what_stands : stands [] log ≡ entry 2 1 (act.Claim 2) true ∷ []
what_stands = refl

-- freeing what was answered no, another's claim, a freeing, and a ticket that nobody has
freeing_a_no : answer sets (stands [] log) 1 (act.Free 3) ≡ false
freeing_a_no = refl

freeing_anothers : answer sets (stands [] log) 0 (act.Free 2) ≡ false
freeing_anothers = refl

freeing_a_freeing : answer sets (stands [] log) 0 (act.Free 1) ≡ false
freeing_a_freeing = refl

freeing_twice : answer sets (stands [] log) 0 (act.Free 0) ≡ false
freeing_twice = refl

freeing_none : answer sets (stands [] log) 0 (act.Free 9) ≡ false
freeing_none = refl

freeing_ones_own : answer sets (stands [] log) 1 (act.Free 2) ≡ true
freeing_ones_own = refl

-- a cell that both have is why a claim is refused
why_refused : IsAnswer (record { spans = span 5 0 3 ∷ span 5 1 3 ∷ []; room = 2 } ∷ record { spans = span 5 1 6 ∷ []; room = 1 } ∷ []) (entry 0 0 (act.Claim 0) true ∷ []) 1 (act.Claim 1) false
why_refused = (cell_at 5 1 1, refl, refl)

-- a set in all quadrants, one in one, and one in none, which touches the first
in_all : touched middle 4 ≡ 3 ∷ 2 ∷ 1 ∷ 0 ∷ []
in_all = refl

in_one : touched high 4 ≡ 3 ∷ []
in_one = refl

in_none : touched nothing 4 ≡ 0 ∷ []
in_none = refl

-- the same tiles at another step are other cells
other_step : meets low later ≡ false
other_step = refl

other_tiles : meets low high ≡ false
other_tiles = refl

shared_tile : meets low middle ≡ true
shared_tile = refl

-- an odd grid has its middle row and column in the first half
odd_middle : quadrant_at (half_of 5) 2 2 ≡ 0
odd_middle = refl

odd_next : quadrant_at (half_of 5) 2 3 ≡ 1
odd_next = refl

even_corner : quadrant_at (half_of 4) 2 1 ≡ 2
even_corner = refl

one_tile : quadrant_at (half_of 1) 0 0 ≡ 0
one_tile = refl

last_tile : quadrant_at (half_of 64) 63 63 ≡ 3
last_tile = refl
