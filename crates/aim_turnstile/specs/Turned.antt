-- The rule of the turn, and what each step tells. No public clause cites it: the rule, the models of passes and fronts, and
-- contracts of private functions do.
-- Word 0, TICKET, is the next ticket to draw. Word 1, SERVING, is the ticket that has its turn. Word 2, COUNT, is the length of the history. The one slot has the kept value.
use Rattle.std.specs.Prelude.{◌≡◌, ◌≢◌, ◌⊎◌, ℕ, ◌+◌, ◌%◌, ◌^◌, ◌<◌, ◌≤◌, ◌==◌, if◌then◌else◌, nat_lt, Bool, true, false, List, [], ◌∷◌, ◌++◌, map, length, MatchBool, Option, Some, None}
use mathlib.Core.Option.{some, none}
use mathlib.Core.Option as maybe
use lib.ListN.{get_elem?}
use Rattle.atomic_table.specs.Table.{State, Me, rest}
use Rattle.aim_turnstile.specs.declared.view.View.{View}
use Rattle.aim_turnstile.specs.History.{entries_of, Begins}
use Rattle.aim_turnstile.specs.Models.{PassModel}

-- P holds of each element
abbrev pub Every : {A : Type 0} → (A → Type 0) → List A → Type 0
Every P [] = Unit {0}
Every P (x ∷ xs) = P x × Every P xs

-- f of each element, added up
abbrev pub total : {A : Type 0} → (A → ℕ) → List A → ℕ
total f [] = 0
total f (x ∷ xs) = f x + total f xs

-- 1 where the numbers are equal
abbrev pub is : ℕ → ℕ → ℕ
is n m = if m == n then 1 else 0

-- the longer of two histories
abbrev pub longer : {E : Type 0} → List E → List E → List E
longer xs ys = if nat_lt (length xs) (length ys) then ys else xs

abbrev pub tail_of : {A : Type 0} → List A → List A
tail_of [] = []
tail_of (x ∷ xs) = xs

-- the number with its entries, where there is one
abbrev pub own : {E : Type 0} → Option ℕ → List E → List (ℕ × List E)
own (Some n) mine = (n, mine) ∷ []
own None mine = []

-- the numbers, each with no entry
abbrev pub blank : {E : Type 0} → List ℕ → List (ℕ × List E)
blank ns = map (λ n. (n, [])) ns

-- 1 where there is a ticket
abbrev pub waits : Option ℕ → ℕ
waits (Some t) = 1
waits None = 0

module _ {S E : Type 0} where
  -- the numbers that have their place in the view, each with its entries: its own, those still to give, and those that ended
  abbrev pub claims : View S E → List (ℕ × List E)
  claims v = own v.number v.mine ++ (blank v.to_give ++ v.ended)

  -- how many views have a ticket
  abbrev pub waiting : List (View S E) → ℕ
  waiting views = total (λ v. waits v.ticket) views

  -- h of the numbers that have their place in the view, added up
  abbrev pub named : (ℕ → ℕ) → View S E → ℕ
  named h v = total (λ c. h c.0) (claims v)

  -- a seat for one number or none, at rest
  abbrev pub seated : Option S → List ℕ → Option ℕ → List E → List E → View S E
  seated s ns n seen mine = record { setting = s; numbers = ns; number = n; ticket = None; turn = false; seen = seen; mine = mine; olds = []; ended = []; to_give = [] }

  -- a seat that was joined away
  abbrev pub spent : View S E
  spent = seated None [] None [] []

  -- the first seat, which still has these numbers to give
  abbrev pub dealing_view : S → List ℕ → List ℕ → View S E
  dealing_view s ns left = record { setting = Some s; numbers = ns; number = None; ticket = None; turn = false; seen = []; mine = []; olds = []; ended = []; to_give = left }

  -- the first seat at the opening, which has all numbers to give
  abbrev pub opening_view : S → List ℕ → View S E
  opening_view s ns = dealing_view s ns ns

  -- a seat for one number that has the turn
  abbrev pub turning : Option S → List ℕ → Option ℕ → ℕ → List E → List E → View S E
  turning s ns n t log mine = record { setting = s; numbers = ns; number = n; ticket = Some t; turn = true; seen = log; mine = mine; olds = []; ended = []; to_give = [] }

  -- the view with a ticket
  abbrev pub queued : View S E → ℕ → View S E
  queued v t = record { setting = v.setting; numbers = v.numbers; number = v.number; ticket = Some t; turn = v.turn; seen = v.seen; mine = v.mine; olds = v.olds; ended = v.ended; to_give = v.to_give }

  -- the view with the turn, which sees the whole history
  abbrev pub served : View S E → List E → View S E
  served v log = record { setting = v.setting; numbers = v.numbers; number = v.number; ticket = v.ticket; turn = true; seen = log; mine = v.mine; olds = v.olds; ended = v.ended; to_give = v.to_give }

  -- the view with one entry more
  abbrev pub counted : View S E → E → View S E
  counted v e = record { setting = v.setting; numbers = v.numbers; number = v.number; ticket = v.ticket; turn = v.turn; seen = v.seen ++ e ∷ []; mine = v.mine ++ e ∷ []; olds = v.olds; ended = v.ended; to_give = v.to_give }

  -- the view without ticket and turn
  abbrev pub rested : View S E → View S E
  rested v = record { setting = v.setting; numbers = v.numbers; number = v.number; ticket = None; turn = false; seen = v.seen; mine = v.mine; olds = v.olds; ended = v.ended; to_give = v.to_give }

  -- the front of a view: what it has seen, with no number
  abbrev pub front_of : View S E → View S E
  front_of v = seated v.setting v.numbers None v.seen []

  -- the first of the numbers still to give goes to a seat of its own
  abbrev pub rest_of : View S E → View S E
  rest_of v = record { setting = v.setting; numbers = v.numbers; number = v.number; ticket = v.ticket; turn = v.turn; seen = v.seen; mine = v.mine; olds = v.olds; ended = v.ended; to_give = tail_of v.to_give }

  abbrev pub next_of : Option S → List ℕ → List E → List ℕ → View S E
  next_of s ns seen [] = seated s ns None seen []
  next_of s ns seen (m ∷ ms) = seated s ns (Some m) seen []

  -- a view that takes another in: the longer seen, and what both had seen as olds
  abbrev pub gathered : View S E → View S E → View S E
  gathered v w = record { setting = v.setting; numbers = v.numbers; number = v.number; ticket = v.ticket; turn = v.turn; seen = longer v.seen w.seen; mine = v.mine; olds = v.seen ∷ w.seen ∷ (w.olds ++ v.olds); ended = own w.number w.mine ++ (w.ended ++ v.ended); to_give = w.to_give ++ v.to_give }

  -- the view after a look that emptied its olds
  abbrev pub fresh : View S E → List E → View S E
  fresh v log = record { setting = v.setting; numbers = v.numbers; number = v.number; ticket = v.ticket; turn = v.turn; seen = log; mine = v.mine; olds = []; ended = v.ended; to_give = v.to_give }

  -- a seat with no number that has taken in these numbers
  abbrev pub gathering : S → List ℕ → List E → List (List E) → List (ℕ × List E) → View S E
  gathering s ns seen olds ended = record { setting = Some s; numbers = ns; number = None; ticket = None; turn = false; seen = seen; mine = []; olds = olds; ended = ended; to_give = [] }

-- What the rule says of one view, where the history is log, the ticket served is `serving`, and the next to draw is `next`.
pub record Fits {S E : Type 0} (caller_of : E → ℕ) (s : S) (numbers : List ℕ) (log : List E) (serving next : ℕ) (v : View S E) : Type 0 where
  pub opened : ((v.setting ≡ Some s) × (v.numbers ≡ numbers)) ⊎ (v ≡ spent)
  pub seen : Begins v.seen log
  pub olds : Every (λ xs. Begins xs log) v.olds
  pub claimed : Every (λ c. entries_of caller_of c.0 log ≡ c.1) (claims v)
  pub own_seen : (n : ℕ) → v.number ≡ Some n → entries_of caller_of n v.seen ≡ v.mine
  pub ticket : (t : ℕ) → v.ticket ≡ Some t → (serving ≤ t) × (t < next) × ((n : ℕ) × (v.number ≡ Some n))
  pub turn : v.turn ≡ true → (v.ticket ≡ Some serving) × (v.seen ≡ log)

-- what a kept value means: what no call changes, the entries so far, whose an entry is, and which lists are lawful
pub record Meaning (K S E : Type 0) : Type 1 where
  pub setting : K → S
  pub entries : K → List E
  pub caller_of : E → ℕ
  pub is_lawful : S → List E → Type 0

abbrev pub meaning : {K S E : Type 0} → (K → S) → (K → List E) → (E → ℕ) → (S → List E → Type 0) → Meaning K S E
meaning setting entries caller_of is_lawful = record { setting = setting; entries = entries; caller_of = caller_of; is_lawful = is_lawful }

-- the seat of the number n, at rest
pub record Sits {K S E : Type 0} (caller_of : E → ℕ) (n : ℕ) (m : Me (Option K) (View S E)) : Type 0 where
  pub is : m ≡ (seated m.0.setting m.0.numbers (Some n) m.0.seen m.0.mine, [])
  pub mine : entries_of caller_of n m.0.seen ≡ m.0.mine

-- the seat of a front
pub record Shows {K S E : Type 0} (m : Me (Option K) (View S E)) : Type 0 where
  pub is : m ≡ (seated m.0.setting m.0.numbers None m.0.seen [], [])

-- the seat that has taken in these passes: whatever begins with its olds begins with what each pass had seen
pub record Gathers {K S E : Type 0} (s : S) (ns : List ℕ) (ps : List (PassModel S E)) (m : Me (Option K) (View S E)) : Type 0 where
  pub is : m ≡ (gathering s ns m.0.seen m.0.olds (map (λ p. (p.number, p.mine)) ps), [])
  pub shown : (log : List E) → Every (λ xs. Begins xs log) m.0.olds → Every (λ p. Begins p.seen log) ps

module _ {K S E : Type 0} (M : Meaning K S E) where
  -- the slot is at home exactly while no view has the turn, and then its value has the setting and stands for the history
  abbrev pub Home : S → List (maybe.Option (Option K)) → List (View S E) → List E → Type 0
  Home s homes views log =
      ((k : K) × (homes ≡ some (Some k) ∷ []) × (M.setting k ≡ s) × (M.entries k ≡ log) × ((j : ℕ) (v : View S E) → get_elem? views j ≡ some v → v.turn ≡ false))
      ⊎ ((homes ≡ none ∷ []) × ((j : ℕ) × (v : View S E) × (get_elem? views j ≡ some v) × (v.turn ≡ true)))

  -- the rule, where the setting is s and the turnstile was opened with these numbers
  pub record Turned (s : S) (numbers : List ℕ) (x : State (Option K) (View S E)) : Type 0 where
    pub log : List E
    pub serving : ℕ
    -- the words, and that the history is the longest that any view has seen, and lawful
    pub words : x.words ≡ ((serving + waiting x.views) % 2 ^ 64) ∷ (serving % 2 ^ 64) ∷ (length log % 2 ^ 64) ∷ []
    pub longest : (j : ℕ) × (v : View S E) × (get_elem? x.views j ≡ some v) × (v.seen ≡ log)
    pub lawful : M.is_lawful s log
    -- each number has exactly one place, no other number has one, and the history has entries of no other
    pub few : length numbers < 2 ^ 64
    pub distinct : (n : ℕ) → total (is n) numbers ≤ 1
    pub places : (h : ℕ → ℕ) → total (named h) x.views ≡ total h numbers
    pub strangers : (n : ℕ) → total (is n) numbers ≡ 0 → entries_of M.caller_of n log ≡ []
    -- each view, and the tickets: all different, and all the numbers from the one served up to the next to draw
    pub each : (j : ℕ) (v : View S E) → get_elem? x.views j ≡ some v → Fits M.caller_of s numbers log serving (serving + waiting x.views) v
    pub apart : (i j : ℕ) (v w : View S E) (t : ℕ) → get_elem? x.views i ≡ some v → get_elem? x.views j ≡ some w → v.ticket ≡ Some t → w.ticket ≡ Some t → i ≡ j
    pub drawn : (t : ℕ) → serving ≤ t → t < serving + waiting x.views → (j : ℕ) × (v : View S E) × (get_elem? x.views j ≡ some v) × (v.ticket ≡ Some t)
    pub slot : Home s x.homes x.views log

  -- a ticket was drawn
  pub record Drew (m : Me (Option K) (View S E)) (found : ℕ) (m' : Me (Option K) (View S E)) : Type 0 where
    pub ticket : ℕ
    pub word : found ≡ ticket % 2 ^ 64
    pub after : m' ≡ (queued m.0 ticket, m.1)

  -- the turn came, with the kept value, which stands for the history so far
  pub record Came (m m' : Me (Option K) (View S E)) : Type 0 where
    pub value : K
    pub log : List E
    pub after : m' ≡ (served m.0 log, (0, Some value) ∷ m.1)
    pub seen : Begins m.0.seen log
    pub stands : M.entries value ≡ log
    pub setting : Some (M.setting value) ≡ m.0.setting
    pub lawful : M.is_lawful (M.setting value) log
    pub mine : (n : ℕ) → m.0.number ≡ Some n → entries_of M.caller_of n log ≡ m.0.mine

  -- where the number found is the ticket's, the turn came, and else nothing did
  pub record Looked (m : Me (Option K) (View S E)) (found : ℕ) (m' : Me (Option K) (View S E)) : Type 0 where
    pub came : (t : ℕ) → m.0.ticket ≡ Some t → found ≡ t % 2 ^ 64 → Came m m'
    pub waits : (t : ℕ) → m.0.ticket ≡ Some t → found ≢ t % 2 ^ 64 → m' ≡ m

  -- the entry was added with which the list of the value in hand ends
  pub record Added (m m' : Me (Option K) (View S E)) : Type 0 where
    pub after : (k : K) (e : E) → m.1 ≡ (0, Some k) ∷ [] → M.entries k ≡ m.0.seen ++ e ∷ [] → m' ≡ (counted m.0 e, m.1)

  -- the turn was given up, and the slot with it
  pub record Passed (m m' : Me (Option K) (View S E)) : Type 0 where
    pub after : m' ≡ (rested m.0, rest m.1)

  -- what was seen grew to the whole history, which begins with each of the olds
  pub record Refreshed (m m' : Me (Option K) (View S E)) : Type 0 where
    pub log : List E
    pub after : m' ≡ (fresh m.0 log, m.1)
    pub seen : Begins m.0.seen log
    pub olds : Every (λ xs. Begins xs log) m.0.olds
    pub mine : (n : ℕ) → m.0.number ≡ Some n → entries_of M.caller_of n log ≡ m.0.mine
    pub lawful : (s : S) → m.0.setting ≡ Some s → M.is_lawful s log

  -- the seat of the number n, at rest, with the setting
  pub record Rests (s : S) (n : ℕ) (m : Me (Option K) (View S E)) : Type 0 where
    pub is : m ≡ (seated (Some s) m.0.numbers (Some n) m.0.seen m.0.mine, [])

  -- the seat of the number n, at rest but for the ticket that it drew, which the word found spells
  pub record Waits (s : S) (n found : ℕ) (m : Me (Option K) (View S E)) : Type 0 where
    pub ticket : ℕ
    pub word : found ≡ ticket % 2 ^ 64
    pub is : m ≡ (queued (seated (Some s) m.0.numbers (Some n) m.0.seen m.0.mine) ticket, [])

  -- the turn came to the number n, which has the slot in hand, and took the kept value k out of it
  pub record Entered (s : S) (n : ℕ) (m : Me (Option K) (View S E)) (k : K) (m' : Me (Option K) (View S E)) : Type 0 where
    pub ticket : ℕ
    pub after : m' ≡ (turning (Some s) m.0.numbers (Some n) ticket (M.entries k) m.0.mine, (0, None) ∷ [])
    pub setting : M.setting k ≡ s
    pub lawful : M.is_lawful s (M.entries k)
    pub seen : Begins m.0.seen (M.entries k)
    pub mine : entries_of M.caller_of n (M.entries k) ≡ m.0.mine

  -- after the call the kept value k has one entry more of the number n, or none
  pub record Leaves (s : S) (n : ℕ) (m : Me (Option K) (View S E)) (k : K) (made : Bool) : Type 0 where
    pub ticket : ℕ
    pub before : m ≡ (turning (Some s) m.0.numbers (Some n) ticket m.0.seen m.0.mine, (0, None) ∷ [])
    pub setting : M.setting k ≡ s
    pub lawful : M.is_lawful s (M.entries k)
    pub entry : MatchBool made ((e : E) × (M.entries k ≡ m.0.seen ++ e ∷ []) × (M.caller_of e ≡ n)) (M.entries k ≡ m.0.seen)

  -- the seat at rest again, with the entry if one was made
  pub record Left (s : S) (n : ℕ) (m : Me (Option K) (View S E)) (k : K) (made : Bool) (m' : Me (Option K) (View S E)) : Type 0 where
    pub after : MatchBool made
        ((e : E) × (M.entries k ≡ m.0.seen ++ e ∷ []) × (M.caller_of e ≡ n) × (m' ≡ (seated (Some s) m.0.numbers (Some n) (M.entries k) (m.0.mine ++ e ∷ []), [])))
        (m' ≡ (seated (Some s) m.0.numbers (Some n) m.0.seen m.0.mine, []))

  -- what the kept value is, once all passes have come together
  pub record Ends (s : S) (numbers : List ℕ) (ps : List (PassModel S E)) (k : K) : Type 0 where
    pub setting : M.setting k ≡ s
    pub lawful : M.is_lawful s (M.entries k)
    pub passes : Every (λ p. Begins p.seen (M.entries k) × (entries_of M.caller_of p.number (M.entries k) ≡ p.mine)) ps
    pub others : (n : ℕ) → total (is n) numbers ≡ 0 → entries_of M.caller_of n (M.entries k) ≡ []
    pub places : (h : ℕ → ℕ) → total (λ p. h p.number) ps ≡ total h numbers
    pub count : length (M.entries k) ≡ total (λ p. length p.mine) ps
