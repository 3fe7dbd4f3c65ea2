-- The rule of the quadrants' turns, and what each step tells. No public clause cites this file.
-- Word q, for q from 0 to 3, is the next ticket to draw of the quadrant q, and word 4 + q the ticket that is served there. Word 8 is the length of the history. The slot q has the quadrant's entries.
use Rattle.std.specs.Prelude.{◌≡◌, ◌≢◌, ◌⊎◌, ℕ, ◌+◌, ◌%◌, ◌^◌, ◌<◌, ◌≤◌, true, List, [], ◌∷◌, ◌++◌, map, length, Option, Some, None, slice_index, vec_capacity}
use mathlib.Core.Option.{some, none}
use mathlib.Core.Option as maybe
use lib.ListN.{get_elem?}
use Rattle.atomic_table.specs.Table.{State, Me, rest}
use Rattle.aim_tiles.specs.Cells.{TakenCells, has_cell}
use Rattle.aim_tiles.specs.Sheets.{AreTiles, AreAhead}
use Rattle.aim_geometry.specs.Cells.{Cell}
use Rattle.aim_shards.specs.declared.claims.ClaimEntry.{ClaimEntry}
use Rattle.aim_shards.specs.declared.quarter.Quarter.{Quarter}
use Rattle.aim_shards.specs.declared.quarter.QuadrantPlan.{QuadrantPlan}
use Rattle.aim_shards.specs.declared.view.QuadrantTurn.{QuadrantTurn}
use Rattle.aim_shards.specs.declared.view.ShardView.{ShardView}
use Rattle.aim_shards.specs.declared.view.Terms.{Terms}
use Rattle.aim_shards.specs.Sums.{Every, total, is, at, below}
use Rattle.aim_shards.specs.Sets.{Quarters, part, set_at}
use Rattle.aim_shards.specs.Claims.{of_quadrant, entries_of, stands, covers, answer, touches, IsLegal}

abbrev pub Numbered : Type 0
Numbered = ℕ × List ClaimEntry

abbrev pub tail_of : {A : Type 0} → List A → List A
tail_of [] = []
tail_of (x ∷ xs) = xs

-- the number with its entries, where there is one
abbrev pub own : Option ℕ → List ClaimEntry → List Numbered
own (Some n) mine = (n, mine) ∷ []
own None mine = []

-- the numbers, each with no entry
abbrev pub blank : List ℕ → List Numbered
blank ns = map (λ n. (n, [])) ns

-- the numbers that have their place in the view, each with its entries
abbrev pub claims : ShardView → List Numbered
claims v = own v.number v.mine ++ v.others

-- h of the numbers that have their place in the view, added up
abbrev pub named : (ℕ → ℕ) → ShardView → ℕ
named h v = total (λ c. h c.0) (claims v)

-- how many entries these numbers have
abbrev pub made : ShardView → ℕ
made v = total (λ c. length c.1) (claims v)

-- h of the tickets that the view waits with at the quadrant, and of those whose turn it has there, added up
abbrev pub waits : ℕ → (ℕ → ℕ) → ShardView → ℕ
waits q h v = total (λ w. at q w.0 (h w.1)) v.waiting

abbrev pub has : ℕ → (ℕ → ℕ) → ShardView → ℕ
has q h v = total (λ t. at q t.quadrant (h t.ticket)) v.held

-- the most entries of all callers
abbrev pub room_of : List ℕ → ℕ → ℕ
room_of numbers calls = total (λ _. calls) numbers

abbrev pub terms_of : List Quarters → List ℕ → ℕ → Terms
terms_of sets numbers calls = record { room = room_of numbers calls; sets = sets }

abbrev pub no_terms : Terms
no_terms = record { room = 0; sets = [] }

abbrev pub turn : ℕ → ℕ → List ClaimEntry → QuadrantTurn
turn q t seen = record { quadrant = q; ticket = t; seen = seen }

-- the seat of the caller n, with these turns
abbrev pub working : Terms → ℕ → List QuadrantTurn → List ClaimEntry → ShardView
working terms n held mine = record { terms = terms; number = Some n; waiting = []; held = held; mine = mine; others = [] }

-- the seat of the caller n, with these turns, which waits at a quadrant
abbrev pub queued : Terms → ℕ → ℕ → ℕ → List QuadrantTurn → List ClaimEntry → ShardView
queued terms n q t held mine = record { terms = terms; number = Some n; waiting = (q, t) ∷ []; held = held; mine = mine; others = [] }

-- a seat of no caller, with these numbers to give or taken over
abbrev pub keeping : Terms → List Numbered → ShardView
keeping terms others = record { terms = terms; number = None; waiting = []; held = []; mine = []; others = others }

abbrev pub opening_view : List Quarters → List ℕ → ℕ → ShardView
opening_view sets numbers calls = keeping (terms_of sets numbers calls) (blank numbers)

abbrev pub spent : ShardView
spent = keeping no_terms []

abbrev pub rest_of : ShardView → ShardView
rest_of v = record { terms = v.terms; number = v.number; waiting = v.waiting; held = v.held; mine = v.mine; others = tail_of v.others }

abbrev pub next_from : Terms → List Numbered → ShardView
next_from terms [] = spent
next_from terms (c ∷ cs) = working terms c.0 [] c.1

abbrev pub next_of : ShardView → ShardView
next_of v = next_from v.terms v.others

-- the one takes the other's numbers over
abbrev pub gathered : ShardView → ShardView → ShardView
gathered v w = record { terms = w.terms; number = v.number; waiting = v.waiting; held = v.held; mine = v.mine; others = claims w ++ v.others }

-- the table can take each set's cells in the quadrant
pub record Takes (sets : List Quarters) (q : ℕ) (table : TakenCells) : Type 0 where
  pub tiles : (k : ℕ) → AreTiles table.size (part (set_at sets k) q)
  pub ahead : (k : ℕ) → AreAhead table.current table.horizon (part (set_at sets k) q)

-- the quadrant's value stands for these entries, and has room for all
pub record Suits (terms : Terms) (q : ℕ) (seen : List ClaimEntry) (k : Quarter) : Type 0 where
  pub entries : k.entries.items ≡ seen
  pub wide : terms.room ≤ vec_capacity k.entries
  pub cells : (cell : Cell) → has_cell k.table cell ≡ covers terms.sets q (stands [] seen) cell
  pub takes : Takes terms.sets q k.table

-- What the rule says of one view.
pub record Fits (calls : ℕ) (terms : Terms) (log : List ClaimEntry) (v : ShardView) : Type 0 where
  pub seen : Every (λ t. t.seen ≡ of_quadrant terms.sets t.quadrant log) v.held
  pub claimed : Every (λ c. entries_of c.0 log ≡ c.1) (claims v)
  pub few : length v.waiting + length v.held ≤ named (λ _. 4) v
  pub calls_left : Every (λ c. length c.1 ≤ calls) (claims v)
  pub terms_is : 1 ≤ named (λ _. 1) v → v.terms ≡ terms

-- The slot of a quadrant is at home and no view has its turn, or one view has it, with the ticket that is served.
abbrev pub Home : Terms → ℕ → List (maybe.Option (Option Quarter)) → List ShardView → List ClaimEntry → ℕ → Type 0
Home terms q homes views log serving =
    ((k : Quarter) × (get_elem? homes q ≡ some (some (Some k))) × Suits terms q (of_quadrant terms.sets q log) k × ((h : ℕ → ℕ) → total (has q h) views ≡ 0))
    ⊎ ((get_elem? homes q ≡ some none) × ((h : ℕ → ℕ) → total (has q h) views ≡ h serving))

-- the rule, where the table was opened for these numbers, each with so many calls
pub record Ruled (sets : List Quarters) (numbers : List ℕ) (calls : ℕ) (x : State (Option Quarter) ShardView) : Type 0 where
  pub log : List ClaimEntry
  pub serving : ℕ → ℕ
  pub next : ℕ → ℕ
  pub wide : length x.words ≡ 9
  pub drawn : (q : ℕ) → q < 4 → slice_index x.words q ≡ next q % 2 ^ 64
  pub served : (q : ℕ) → q < 4 → slice_index x.words (4 + q) ≡ serving q % 2 ^ 64
  pub counted : slice_index x.words 8 ≡ length log
  pub lawful : IsLegal sets log
  -- each number has exactly one place, no other number has one, and the history has entries of no other
  pub few : total (λ _. 4) numbers < 2 ^ 60
  pub small : room_of numbers calls < 2 ^ 32
  pub distinct : (n : ℕ) → total (is n) numbers ≤ 1
  pub places : (h : ℕ → ℕ) → total (named h) x.views ≡ total h numbers
  pub strangers : (n : ℕ) → total (is n) numbers ≡ 0 → entries_of n log ≡ []
  pub count : total made x.views ≡ length log
  -- the tickets of a quadrant are all different, and are all the numbers from the one served up to the next to draw
  pub line : (q : ℕ) → q < 4 → (h : ℕ → ℕ) → total (waits q h) x.views + total (has q h) x.views + below h (serving q) ≡ below h (next q)
  pub slot : (q : ℕ) → q < 4 → Home (terms_of sets numbers calls) q x.homes x.views log (serving q)
  pub each : (j : ℕ) (v : ShardView) → get_elem? x.views j ≡ some v → Fits calls (terms_of sets numbers calls) log v

-- a quadrant's ticket was drawn
pub record Drew (q : ℕ) (m : Me (Option Quarter) ShardView) (found : ℕ) (m' : Me (Option Quarter) ShardView) : Type 0 where
  pub ticket : ℕ
  pub word : found ≡ ticket % 2 ^ 64
  pub after : m' ≡ (record { terms = m.0.terms; number = m.0.number; waiting = (q, ticket) ∷ []; held = m.0.held; mine = m.0.mine; others = m.0.others }, m.1)

-- the quadrant's turn came, and its slot with it
pub record Came (q t : ℕ) (m m' : Me (Option Quarter) ShardView) : Type 0 where
  pub value : Quarter
  pub seen : List ClaimEntry
  pub suits : Suits m.0.terms q seen value
  pub after : m' ≡ (record { terms = m.0.terms; number = m.0.number; waiting = []; held = turn q t seen ∷ m.0.held; mine = m.0.mine; others = m.0.others }, (q, Some value) ∷ m.1)

-- where the number found is the ticket's, the turn came, and else nothing did
pub record Looked (m : Me (Option Quarter) ShardView) (found : ℕ) (m' : Me (Option Quarter) ShardView) : Type 0 where
  pub came : (q t : ℕ) → m.0.waiting ≡ (q, t) ∷ [] → found ≡ t % 2 ^ 64 → Came q t m m'
  pub waits : (q t : ℕ) → m.0.waiting ≡ (q, t) ∷ [] → found ≢ t % 2 ^ 64 → m' ≡ m

-- the turns with one entry more in each list
abbrev pub noted : ClaimEntry → List QuadrantTurn → List QuadrantTurn
noted e held = map (λ t. turn t.quadrant t.ticket (t.seen ++ e ∷ [])) held

-- the entry that the holder announced, with its ticket
abbrev pub entry_of : ℕ → Option ℕ → QuadrantPlan → ClaimEntry
entry_of ticket (Some n) plan = record { ticket = ticket; caller = n; act = plan.act; yes = plan.yes }
entry_of ticket None plan = record { ticket = ticket; caller = 0; act = plan.act; yes = plan.yes }

abbrev pub with_entry : ClaimEntry → ShardView → ShardView
with_entry e v = record { terms = v.terms; number = v.number; waiting = v.waiting; held = noted e v.held; mine = v.mine ++ e ∷ []; others = v.others }

-- what the view knows is so of one legal history
pub record Stands (v : ShardView) : Type 0 where
  pub log : List ClaimEntry
  pub lawful : IsLegal v.terms.sets log
  pub seen : Every (λ t. t.seen ≡ of_quadrant v.terms.sets t.quadrant log) v.held
  pub claimed : Every (λ c. entries_of c.0 log ≡ c.1) (claims v)

-- the entry was made that the slot in hand announces
pub record Entered (m : Me (Option Quarter) ShardView) (found : ℕ) (m' : Me (Option Quarter) ShardView) : Type 0 where
  pub after : (q : ℕ) (k : Quarter) (others : List (ℕ × Option Quarter)) → m.1 ≡ (q, Some k) ∷ others → m' ≡ (with_entry (entry_of found m.0.number k.plan) m.0, m.1)
  pub room : found < m.0.terms.room
  pub small : found < 2 ^ 32
  pub stood : Stands m.0
  pub behind : Every (λ t. length t.seen ≤ found) m.0.held

-- the turn that came last was given up, and its slot with it
pub record Passed (m m' : Me (Option Quarter) ShardView) : Type 0 where
  pub after : m' ≡ (record { terms = m.0.terms; number = m.0.number; waiting = m.0.waiting; held = tail_of m.0.held; mine = m.0.mine; others = m.0.others }, rest m.1)

-- after this history the answer is right, and the call touches just the quadrants of the turns
pub record Decided (sets : List Quarters) (n : ℕ) (held : List QuadrantTurn) (plan : QuadrantPlan) (log : List ClaimEntry) : Type 0 where
  pub right : plan.yes ≡ answer sets (stands [] log) n plan.act
  pub only : (q : ℕ) → touches sets (stands [] log) plan.act plan.yes q ≡ true → (q < 4) × (1 ≤ total (λ t. at q t.quadrant 1) held)
  pub all : Every (λ t. touches sets (stands [] log) plan.act plan.yes t.quadrant ≡ true) held

-- the answer is right, and the call touches just the quadrants of the turns, after each lawful history that has the turns'
-- lists and the caller's entries
pub record Decides (sets : List Quarters) (n : ℕ) (held : List QuadrantTurn) (mine : List ClaimEntry) (plan : QuadrantPlan) : Type 0 where
  pub after : (log : List ClaimEntry) → IsLegal sets log → Every (λ t. t.seen ≡ of_quadrant sets t.quadrant log) held → entries_of n log ≡ mine → Decided sets n held plan log
