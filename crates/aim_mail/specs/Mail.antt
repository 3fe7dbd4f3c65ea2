-- The server, the clients and their calls.
-- No public clause cites it: only the models of clients and servers, and contracts of private functions.
use Rattle.std.specs.Prelude.{◌≡◌, ℕ, ◌<◌, ◌≤◌, ◌==◌, ◌⊎◌, true, false, List, [], ◌∷◌, ◌++◌, map, filter, length, Option, Some}
use mathlib.Core.Option.{some}
use lib.ListN.{get_elem?}
use Rattle.aim_messages.specs.declared.entries.Entry.{Entry}
use Rattle.aim_requests.specs.Requests.{Request}
use Rattle.aim_rules.specs.Legal.{IsLegal}
use Rattle.aim_book.specs.Sheets.{sheets_kept}
use Rattle.aim_book.specs.State.{State}
use Rattle.aim_mail.specs.declared.letter.Letter.{Letter}
use Rattle.aim_mail.specs.declared.letter.MailSetting.{MailSetting}
use Rattle.aim_mail.specs.declared.letter.Word.TheVariants as W
use Rattle.aim_mail.specs.declared.response.Response.{Response}
use Rattle.aim_mail.specs.Asks.{Ask, asks, calls_in, has_last, is_last}
use Rattle.aim_mail.specs.Calls.{Answer, Channel, ClientModel, ServerModel, entry_of, IsNewClient, IsReply, IsFull}
use Rattle.aim_mail.specs.Post.{Every, of, PortModel, IntakeModel, NoteModel}
use Rattle.aim_mail.specs.Slips.{IsFirst, Lawful, kept_after, SlipModel, InletModel}

-- the channel of a port, of the server's end, and of a note
abbrev pub posts_on : PortModel → Channel Letter
posts_on p = record { table = p.table; key = p.key }

abbrev pub letters_of : IntakeModel → Channel Letter
letters_of i = record { table = i.table; key = i.key }

abbrev pub noted_on : NoteModel → Channel Letter
noted_on n = record { table = n.table; key = n.key }

-- what contracts see of a client with these ends
abbrev pub client_of : PortModel → InletModel → ClientModel
client_of port inlet = record {
  asks_on = posts_on port;
  hears_on = record { table = inlet.table; key = inlet.key };
  setting = port.setting;
  vehicle = port.from;
  calls = calls_in port.sent inlet.heard;
  kept = kept_after inlet.heard;
}

-- a client that has an answer to each of its calls
pub record IsOpen (sent : List Letter) (heard : List Response) : Type 0 where
  pub each : length (asks sent) ≡ length heard
  pub going : has_last sent ≡ false

-- the same, with its last word sent
pub record IsEnded (sent : List Letter) (heard : List Response) : Type 0 where
  pub calls : List Letter
  pub last : Letter
  pub is : sent ≡ calls ++ last ∷ []
  pub word : is_last last.word ≡ true
  pub each : length (asks sent) ≡ length heard
  pub going : has_last calls ≡ false

-- what the first response told a client
pub record IsTold (port : PortModel) (first : Option Response) : Type 0 where
  pub terms : MailSetting
  pub is : port.setting ≡ Some terms
  pub told : IsFirst port.from (posts_on port) terms.layout.grid.spans first

abbrev pub call_letter : ℕ → ℕ → Request → Letter
call_letter from moment p = record { from = from; word = W.Call moment p }

abbrev pub last_letter : ℕ → Letter
last_letter from = record { from = from; word = W.Last }

-- what was served: whose call it was, what it asked, and the answer
pub record Deal : Type 0 where
  pub vehicle : ℕ
  pub ask : Ask
  pub answer : Answer

abbrev pub deal : ℕ → Ask → Answer → Deal
deal v a r = record { vehicle = v; ask = a; answer = r }

abbrev pub deals_of : ℕ → List Deal → List Deal
deals_of p ds = filter (λ d. d.vehicle == p) ds

-- the entries of what was served
abbrev pub entries_in : List Deal → List Entry
entries_in [] = []
entries_in (d ∷ ds) = entry_of d.vehicle d.ask.moment d.ask.message d.answer ++ entries_in ds

-- what the server knows of one client
pub record Owes (p : ℕ) (on : Channel Letter) (spans : ℕ) (journal : List Entry) (log : List Deal) (got : List Letter) (s : SlipModel) : Type 0 where
  pub put : map (λ r. r.answer) s.put ≡ map (λ d. d.answer) (deals_of p log)
  pub lawful : Lawful s.first s.put
  pub told : IsFirst p on spans s.first
  pub kept : kept_after s.put ≡ sheets_kept p journal
  pub ended : s.ended ≡ true → has_last (of p got) ≡ true

-- What the server knows, with the channel of the requests: all that it served, first what had room and then what had not.
pub record Stands (book : State) (on : Channel Letter) (got : List Letter) (slips : List SlipModel) : Type 0 where
  pub replied : List Deal
  pub refused : List Deal
  pub replies : Every (λ d. IsReply d.answer) replied
  pub refusals : Every (λ d. IsFull d.answer) refused
  pub full : (refused ≡ []) ⊎ (length book.journal ≡ book.room)
  pub asked : (p : ℕ) → asks (of p got) ≡ map (λ d. d.ask) (deals_of p (replied ++ refused))
  pub count : length slips ≡ book.vehicles
  pub each : (p : ℕ) (s : SlipModel) → get_elem? slips p ≡ some s → Owes p on book.layout.grid.spans book.journal (replied ++ refused) got s
  pub entries : book.journal ≡ entries_in replied
  pub known : Every (λ d. d.vehicle < book.vehicles) replied
  pub legal : IsLegal book.layout book.vehicles book.journal
  pub within : length book.journal ≤ book.room

-- a slip of which nothing was sent but the first response
abbrev pub IsNewSlip : ℕ → Channel Letter → ℕ → SlipModel → Type 0
IsNewSlip p on spans s = (s.put ≡ []) × (s.ended ≡ false) × IsFirst p on spans s.first

-- the same book, maybe with another journal
pub record IsSameBook (a b : State) : Type 0 where
  pub layout : b.layout ≡ a.layout
  pub vehicles : b.vehicles ≡ a.vehicles
  pub room : b.room ≡ a.room

-- what no call changes of a book
abbrev pub setting_of : State → MailSetting
setting_of b = record { layout = b.layout; vehicles = b.vehicles; room = b.room }

-- the slips of the same channels, and the clients that had ended still have
pub record IsSameSlip (a b : SlipModel) : Type 0 where
  pub table : b.table ≡ a.table
  pub key : b.key ≡ a.key
  pub ended : a.ended ≡ true → b.ended ≡ true

abbrev pub AreSameSlips : List SlipModel → List SlipModel → Type 0
AreSameSlips xs ys = (length ys ≡ length xs) × ((p : ℕ) (a : SlipModel) → get_elem? xs p ≡ some a → (b : SlipModel) × (get_elem? ys p ≡ some b) × IsSameSlip a b)

-- the client has ended
abbrev pub HasEnded : List SlipModel → ℕ → Type 0
HasEnded slips p = (s : SlipModel) → get_elem? slips p ≡ some s → s.ended ≡ true

pub record IsSameIntake (a b : IntakeModel) : Type 0 where
  pub table : b.table ≡ a.table
  pub key : b.key ≡ a.key
  pub setting : b.setting ≡ a.setting
  pub made : b.made ≡ a.made
  pub known : b.known ≡ a.known

-- the server's end of a client's channel
abbrev pub channel_of : SlipModel → Channel Response
channel_of s = record { table = s.table; key = s.key }

-- the setting is known, and its layout has sheets of so many spans
abbrev pub HasSpans : Option MailSetting → ℕ → Type 0
HasSpans setting spans = (terms : MailSetting) × (setting ≡ Some terms) × (spans ≡ terms.layout.grid.spans)

-- what contracts see of a server with these parts
abbrev pub mail_of : MailSetting → IntakeModel → List SlipModel → ServerModel
mail_of setting intake slips = record { setting = setting; asked_on = letters_of intake; answers_on = map channel_of slips }

-- the ends of a mailbox of the setting that has so many clients, each of them new
pub record IsStaffed (terms : MailSetting) (count : ℕ) (intake : IntakeModel) (slips : List SlipModel) (clients : List ClientModel) : Type 0 where
  pub setting : intake.setting ≡ Some terms
  pub got : intake.got ≡ []
  pub known : intake.known ≡ []
  pub made : intake.made ≡ count
  pub slip_count : length slips ≡ count
  pub client_count : length clients ≡ count
  pub blank : (p : ℕ) (s : SlipModel) → get_elem? slips p ≡ some s → IsNewSlip p (letters_of intake) terms.layout.grid.spans s
  pub each : (p : ℕ) (c : ClientModel) → get_elem? clients p ≡ some c → IsNewClient (mail_of terms intake slips) p c

-- a client that ended, with all that it sent and heard
pub record Gone : Type 0 where
  pub client : ClientModel
  pub sent : List Letter
  pub heard : List Response

-- what a client that ended was found to have heard
pub record Found (slips : List SlipModel) (g : Gone) : Type 0 where
  pub ends : IsEnded g.sent g.heard
  pub calls : g.client.calls ≡ calls_in g.sent g.heard
  pub kept : g.client.kept ≡ kept_after g.heard
  pub slip : SlipModel
  pub at : get_elem? slips g.client.vehicle ≡ some slip
  pub rest : List Response
  pub put : slip.put ≡ g.heard ++ rest
