-- What letters ask, and the calls that they are with the responses.
use Rattle.std.specs.Prelude.{ℕ, ◌||◌, Bool, true, false, List, [], ◌∷◌, ◌++◌}
use Rattle.aim_messages.specs.declared.messages.Message.{Message}
use Rattle.aim_requests.specs.Requests.{Request}
use Rattle.aim_mail.specs.declared.letter.Letter.{Letter}
use Rattle.aim_mail.specs.declared.letter.Word.{Word}
use Rattle.aim_mail.specs.declared.letter.Word.TheVariants as W
use Rattle.aim_mail.specs.declared.response.Response.{Response}
use Rattle.aim_mail.specs.Calls.{Answer, Call}

-- what is asked by a call
pub record Ask : Type 0 where
  pub moment : ℕ
  pub message : Message

abbrev pub ask : ℕ → Request → Ask
ask moment p = record { moment = moment; message = p.message }

abbrev pub asked : Word → List Ask
asked (W.Opening s) = []
asked (W.Call moment p) = ask moment p ∷ []
asked W.Last = []

abbrev pub is_last : Word → Bool
is_last (W.Opening s) = false
is_last (W.Call moment p) = false
is_last W.Last = true

-- what the calls among the letters ask
abbrev pub asks : List Letter → List Ask
asks [] = []
asks (l ∷ ls) = asked l.word ++ asks ls

-- whether a last word is among the letters
abbrev pub has_last : List Letter → Bool
has_last [] = false
has_last (l ∷ ls) = is_last l.word || has_last ls

abbrev pub call_of : Ask → Answer → Call
call_of a answer = record { moment = a.moment; message = a.message; answer = answer }

-- each ask with the response in its place
abbrev pub pairs : List Ask → List Response → List Call
pairs [] rs = []
pairs (a ∷ as') [] = []
pairs (a ∷ as') (r ∷ rs) = call_of a r.answer ∷ pairs as' rs

-- the calls of a client that sent and heard so
abbrev pub calls_in : List Letter → List Response → List Call
calls_in sent heard = pairs (asks sent) heard
