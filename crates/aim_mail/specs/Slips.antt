-- The channel from the server to one client: what its passes know, its rule, and what contracts see of its ends.
-- No public clause cites it: only the models of the ends, and contracts of private functions.
use Rattle.std.specs.Prelude.{◌≡◌, ◌⊎◌, ℕ, ◌+◌, Bool, true, false, List, [], ◌∷◌, ◌++◌, length, Option, Some, None}
use mathlib.Core.Option.{some}
use lib.ListN.{get_elem?}
use Rattle.atomic_table.specs.Seated.{TableId}
use Rattle.atomic_table.specs.declared.badge.Badge.{Badge}
use Rattle.crossbeam_channel.specs.declared.flavors.array.Key.{Key}
use Rattle.aim_book.specs.Sheets.{sheets_kept}
use Rattle.aim_mail.specs.declared.letter.Letter.{Letter}
use Rattle.aim_mail.specs.declared.response.Response.{Response}
use Rattle.aim_mail.specs.declared.slip.Slate.{Slate}
use Rattle.aim_mail.specs.Asks.{asks, calls_in}
use Rattle.aim_mail.specs.Calls.{Channel, entries_of}
use Rattle.aim_mail.specs.Post.{of}

-- what the first response tells: the client's number, the channel of its requests, and the room of its sheets
pub record IsFirst (number : ℕ) (requests : Channel Letter) (room : ℕ) (first : Option Response) : Type 0 where
  pub opening : Response
  pub is : first ≡ Some opening
  pub to : opening.to ≡ number
  pub table : opening.note.table ≡ requests.table
  pub key : opening.note.key ≡ requests.key
  pub sheets : opening.sheets.room ≡ room

-- how many sheets the book keeps after the responses
abbrev pub kept_from : ℕ → List Response → ℕ
kept_from k [] = k
kept_from k (r ∷ rs) = kept_from r.kept rs

abbrev pub kept_after : List Response → ℕ
kept_after rs = kept_from 0 rs

-- The response may come after the first one and those of `before`. It is to the same client, and its sheets have the same
-- room. With those that the book keeps they are those that it kept before and the two of the call. Its note is of the same
-- channel, and tells one call of the client for each response. The number kept is the one of these calls with the answers.
pub record Follows (first : Response) (before : List Response) (r : Response) : Type 0 where
  pub to : r.to ≡ first.to
  pub room : r.sheets.room ≡ first.sheets.room
  pub count : r.sheets.count + r.kept ≡ kept_after before + 2
  pub table : r.note.table ≡ first.note.table
  pub key : r.note.key ≡ first.note.key
  pub calls : length (asks (of first.to r.note.got)) ≡ length before + 1
  pub kept : r.kept ≡ sheets_kept first.to (entries_of first.to (calls_in (of first.to r.note.got) (before ++ r ∷ [])))

abbrev pub IsNext : Option Response → List Response → Response → Type 0
IsNext (Some first) before r = Follows first before r
IsNext None before r = ⊥

abbrev pub LawfulAfter : Option Response → List Response → List Response → Type 0
LawfulAfter first before [] = Unit {0}
LawfulAfter first before (r ∷ rs) = IsNext first before r × LawfulAfter first (before ++ r ∷ []) rs

-- each response may come after those before it
abbrev pub Lawful : Option Response → List Response → Type 0
Lawful first rs = LawfulAfter first [] rs

-- the pass at first
abbrev pub blank_slate : Slate
blank_slate = record { first = None; ready = false; puts = true; put = []; hears = true; heard = [] }

-- the pass that has sent the first response
abbrev pub telling_slate : Option Response → Slate
telling_slate first = record { first = first; ready = false; puts = true; put = []; hears = true; heard = [] }

abbrev pub slate : Option Response → Bool → List Response → Bool → List Response → Slate
slate first a put b heard = record { first = first; ready = true; puts = a; put = put; hears = b; heard = heard }

-- the pass that has received it
abbrev pub whole_slate : Option Response → Slate
whole_slate first = slate first true [] true []

-- a pass that was taken in
abbrev pub spent_slate : Slate
spent_slate = record { first = None; ready = false; puts = false; put = []; hears = false; heard = [] }

abbrev pub put_more : Slate → Response → Slate
put_more v x = record { first = v.first; ready = v.ready; puts = v.puts; put = v.put ++ x ∷ []; hears = v.hears; heard = v.heard }

abbrev pub heard_more : Slate → Response → Slate
heard_more v x = record { first = v.first; ready = v.ready; puts = v.puts; put = v.put; hears = v.hears; heard = v.heard ++ x ∷ [] }

-- what the rule says of one pass
pub record FitsSlate (first : Option Response) (writer reader : ℕ) (put heard : List Response) (pass : ℕ) (v : Slate) : Type 0 where
  pub readied : v.puts ≡ true → v.ready ≡ true
  pub firsts : v.ready ≡ true → v.first ≡ first
  pub puts : v.puts ≡ true → (pass ≡ writer) × (v.put ≡ put)
  pub hears : v.hears ≡ true → (pass ≡ reader) × (v.heard ≡ heard)

-- What was sent is what was received and then what the channel holds. It is lawful, and each end has one pass at most.
pub record Going (items : List Response) (views : List Slate) : Type 0 where
  pub first : Option Response
  pub writer : ℕ
  pub reader : ℕ
  pub put : List Response
  pub heard : List Response
  pub whole : put ≡ heard ++ items
  pub lawful : Lawful first put
  pub each : (pass : ℕ) (v : Slate) → get_elem? views pass ≡ some v → FitsSlate first writer reader put heard pass v

-- The rule. At first there is one pass and no response, then the response that tells the room, and from then on those to calls.
abbrev pub Answered : List Response → List Slate → Type 0
Answered items views = ((items ≡ []) × (views ≡ blank_slate ∷ []))
    ⊎ (((x : Response) × (items ≡ x ∷ []) × (views ≡ telling_slate (Some x) ∷ [])) ⊎ Going items views)

-- what contracts see of the server's end
pub record SlipModel : Type 0 where
  pub table : TableId
  pub key : Badge (Key Response)
  pub first : Option Response
  pub put : List Response
  pub ended : Bool

-- what contracts see of the client's end
pub record InletModel : Type 0 where
  pub table : TableId
  pub key : Badge (Key Response)
  pub first : Option Response
  pub heard : List Response

abbrev pub put_on : SlipModel → Response → SlipModel
put_on s x = record { table = s.table; key = s.key; first = s.first; put = s.put ++ x ∷ []; ended = s.ended }

abbrev pub heard_on : InletModel → Response → InletModel
heard_on s x = record { table = s.table; key = s.key; first = s.first; heard = s.heard ++ x ∷ [] }
