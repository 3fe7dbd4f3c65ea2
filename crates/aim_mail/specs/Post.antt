-- The channel from the clients to the server: what its passes know, its rule, and what contracts see of its ends.
-- Of the mailbox's public clauses none cites it: only models, and contracts of private functions.
use Rattle.std.specs.Prelude.{◌≡◌, ◌≢◌, ◌⊎◌, ℕ, ◌+◌, ◌<◌, ◌≤◌, ◌==◌, true, false, List, [], ◌∷◌, ◌++◌, filter, Option, Some, None}
use mathlib.Core.Option.{some}
use lib.ListN.{get_elem?}
use Rattle.atomic_table.specs.Seated.{TableId}
use Rattle.atomic_table.specs.declared.badge.Badge.{Badge}
use Rattle.crossbeam_channel.specs.declared.flavors.array.Key.{Key}
use Rattle.aim_messages.specs.declared.entries.TheConstants.{LATEST_MOMENT}
use Rattle.aim_requests.specs.Requests.{Request, IsPreparedFor}
use Rattle.aim_mail.specs.declared.letter.Letter.{Letter}
use Rattle.aim_mail.specs.declared.letter.MailSetting.{MailSetting}
use Rattle.aim_mail.specs.declared.letter.Word.{Word}
use Rattle.aim_mail.specs.declared.letter.Word.TheVariants as W
use Rattle.aim_mail.specs.declared.post.Hand.{Hand}

-- P holds of each element
abbrev pub Every : {A : Type 0} → (A → Type 0) → List A → Type 0
Every P [] = Unit {0}
Every P (x ∷ xs) = P x × Every P xs

-- the letters of the client p, in order
abbrev pub of : ℕ → List Letter → List Letter
of p letters = filter (λ l. l.from == p) letters

-- the setting that a word tells
abbrev pub told : Word → Option MailSetting
told (W.Opening s) = Some s
told (W.Call moment p) = None
told W.Last = None

-- whether a server of the setting may be called so
abbrev pub IsServable : Option MailSetting → ℕ → Request → Type 0
IsServable (Some s) moment p = (moment ≤ LATEST_MOMENT) × IsPreparedFor s.layout p
IsServable None moment p = ⊥

-- the word is a client's, and what it calls with was made for the setting
abbrev pub IsFor : Option MailSetting → Word → Type 0
IsFor g (W.Opening s) = ⊥
IsFor g (W.Call moment p) = IsServable g moment p
IsFor g W.Last = Unit {0}

-- the pass at first
abbrev pub blank : Hand
blank = record { told = false; ready = false; setting = None; from = None; sent = []; gets = false; got = []; made = 0; known = [] }

-- the pass that has told the setting
abbrev pub telling : Option MailSetting → Hand
telling g = record { told = true; ready = false; setting = g; from = None; sent = []; gets = true; got = []; made = 0; known = [] }

-- the pass of the client p, which was told that the server had received `got`
abbrev pub client_at : Option MailSetting → ℕ → List Letter → List Letter → Hand
client_at g p sent got = record { told = true; ready = true; setting = g; from = Some p; sent = sent; gets = false; got = got; made = 0; known = [] }

abbrev pub client : Option MailSetting → ℕ → List Letter → Hand
client g p sent = client_at g p sent []

-- a note of what the server had received
abbrev pub note : Option MailSetting → List Letter → Hand
note g got = record { told = true; ready = true; setting = g; from = None; sent = []; gets = false; got = got; made = 0; known = [] }

-- the pass with another's note
abbrev pub heeded : Hand → Hand → Hand
heeded v w = record { told = v.told; ready = v.ready; setting = v.setting; from = v.from; sent = v.sent; gets = v.gets; got = w.got; made = v.made; known = v.known }

-- what the server had received of the client is a beginning of what the client sent
abbrev pub Begun : Option ℕ → List Letter → List Letter → Type 0
Begun (Some p) sent got = (rest : List Letter) × (sent ≡ of p got ++ rest)
Begun None sent got = Unit {0}

-- the pass of the server
abbrev pub reader : Option MailSetting → List Letter → ℕ → List (ℕ × List Letter) → Hand
reader g got made known = record { told = true; ready = true; setting = g; from = None; sent = []; gets = true; got = got; made = made; known = known }

-- a pass that was taken in
abbrev pub nobody : Hand
nobody = record { told = true; ready = false; setting = None; from = None; sent = []; gets = false; got = []; made = 0; known = [] }

abbrev pub sent_more : Hand → Letter → Hand
sent_more v x = record { told = v.told; ready = v.ready; setting = v.setting; from = v.from; sent = v.sent ++ x ∷ []; gets = v.gets; got = v.got; made = v.made; known = v.known }

abbrev pub got_more : Hand → Letter → Hand
got_more v x = record { told = v.told; ready = v.ready; setting = v.setting; from = v.from; sent = v.sent; gets = v.gets; got = v.got ++ x ∷ []; made = v.made; known = v.known }

-- the client with what it sent, where there is one
abbrev pub own : Option ℕ → List Letter → List (ℕ × List Letter)
own (Some p) sent = (p, sent) ∷ []
own None sent = []

abbrev pub taken_in : Hand → Hand → Hand
taken_in v w = reader v.setting v.got v.made (own w.from w.sent ++ v.known)

-- no client is there twice
abbrev pub AreApart : List (ℕ × List Letter) → Type 0
AreApart [] = Unit {0}
AreApart (k ∷ ks) = Every (λ j. j.0 ≢ k.0) ks × AreApart ks

-- what the clients that ended had sent is what was received of them, and then what the channel holds of them; none is there twice
abbrev pub Settled : List Letter → List (ℕ × List Letter) → List Letter → Type 0
Settled got known items = Every (λ k. of k.0 (got ++ items) ≡ k.1) known × AreApart known

-- What the rule says of the server's pass: `all` has what was received and then what the channel holds, and `seat` which pass a client has.
pub record Reads (seat : ℕ → Option ℕ) (boss : ℕ) (got all : List Letter) (pass : ℕ) (v : Hand) : Type 0 where
  pub place : pass ≡ boss
  pub whole : v.got ≡ got
  pub later : (p : ℕ) → v.made ≤ p → (seat p ≡ None) × (of p all ≡ [])
  pub ended : Every (λ k. (k.0 < v.made) × (seat k.0 ≡ None) × (of k.0 all ≡ k.1)) v.known
  pub apart : AreApart v.known

-- what the rule says of one pass
pub record Fits (setting : Option MailSetting) (seat : ℕ → Option ℕ) (boss : ℕ) (got all : List Letter) (pass : ℕ) (v : Hand) : Type 0 where
  pub told : v.told ≡ true
  pub readied : v.gets ≡ true → v.ready ≡ true
  pub settings : v.ready ≡ true → v.setting ≡ setting
  pub begins : (rest : List Letter) × (got ≡ v.got ++ rest)
  pub sender : (p : ℕ) → v.from ≡ Some p → (seat p ≡ Some pass) × (v.sent ≡ of p all)
  pub reads : v.gets ≡ true → Reads seat boss got all pass v

-- What each client sent is what was received of it and then what the channel holds of it, and each client has one pass at most. What the channel holds was made for the setting.
pub record Running (items : List Letter) (views : List Hand) : Type 0 where
  pub setting : Option MailSetting
  pub servable : Every (λ l. IsFor setting l.word) items
  pub seat : ℕ → Option ℕ
  pub boss : ℕ
  pub got : List Letter
  pub all : List Letter
  pub whole : all ≡ got ++ items
  pub each : (pass : ℕ) (v : Hand) → get_elem? views pass ≡ some v → Fits setting seat boss got all pass v

-- The rule. First there is one pass and no letter, then the letter that tells the setting, and from then on the clients' letters.
abbrev pub Posted : List Letter → List Hand → Type 0
Posted items views = ((items ≡ []) × (views ≡ blank ∷ []))
    ⊎ (((x : Letter) × (items ≡ x ∷ []) × (views ≡ telling (told x.word) ∷ [])) ⊎ Running items views)

-- what contracts see of a client's end: the channel, the client's number, and all that it sent
pub record PortModel : Type 0 where
  pub table : TableId
  pub key : Badge (Key Letter)
  pub setting : Option MailSetting
  pub from : ℕ
  pub sent : List Letter

-- what contracts see of a note
pub record NoteModel : Type 0 where
  pub table : TableId
  pub key : Badge (Key Letter)
  pub setting : Option MailSetting
  pub got : List Letter

-- what contracts see of the server's end: the channel, all that was received, how many clients were made, and those that were taken in
pub record IntakeModel : Type 0 where
  pub table : TableId
  pub key : Badge (Key Letter)
  pub setting : Option MailSetting
  pub got : List Letter
  pub made : ℕ
  pub known : List (ℕ × List Letter)

abbrev pub posted : PortModel → Letter → PortModel
posted p x = record { table = p.table; key = p.key; setting = p.setting; from = p.from; sent = p.sent ++ x ∷ [] }

abbrev pub received : IntakeModel → Letter → IntakeModel
received i x = record { table = i.table; key = i.key; setting = i.setting; got = i.got ++ x ∷ []; made = i.made; known = i.known }

abbrev pub new_port : IntakeModel → PortModel
new_port i = record { table = i.table; key = i.key; setting = i.setting; from = i.made; sent = [] }

abbrev pub hired : IntakeModel → IntakeModel
hired i = record { table = i.table; key = i.key; setting = i.setting; got = i.got; made = i.made + 1; known = i.known }

abbrev pub took_in : IntakeModel → PortModel → IntakeModel
took_in i p = record { table = i.table; key = i.key; setting = i.setting; got = i.got; made = i.made; known = (p.from, p.sent) ∷ i.known }
