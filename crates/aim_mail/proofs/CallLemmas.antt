-- What a client knows of its calls.
use Rattle.std.proofs.Common.{◌≡◌, ℕ, ◌+◌, ◌≤◌, Bool, true, false, List, [], ◌∷◌, ◌++◌, length, sym, refl, ap, ◌∙◌, subst, append_assoc, append-nil, length-append, arith, Option, Some}
use Rattle.std.specs.Prelude.{◌||◌, IfSome, if◌then◌else◌, None, option_and_then}
use Rattle.aim_messages.specs.declared.entries.Entry.{Entry}
use Rattle.aim_rules.specs.History.{fresh}
use Rattle.aim_rules.specs.Holds.{is_given_up, last_confirm}
use Rattle.aim_book.specs.Sheets.{id_in, sheets_kept, sheets_with}
use Rattle.aim_requests.specs.Requests.{Request, IsPreparedFor}
use Rattle.aim_mail.specs.declared.letter.Letter.{Letter}
use Rattle.aim_mail.specs.declared.response.Response.{Response}
use Rattle.aim_messages.specs.declared.entries.TheConstants.{LATEST_MOMENT}
use Rattle.aim_mail.specs.declared.letter.MailSetting.{MailSetting}
use Rattle.aim_mail.specs.Post.{Begun, of, PortModel, IsServable, posted}
use Rattle.aim_mail.specs.Slips.{Follows, IsNext, Lawful, kept_after, InletModel, heard_on}
use Rattle.aim_mail.specs.Calls.{IsKept, entries_of}
use Rattle.aim_mail.specs.Asks.{Ask, ask, asked, is_last, asks, has_last, call_of, pairs, calls_in}
use Rattle.aim_mail.specs.Mail.{client_of, IsTold, IsOpen, IsEnded, call_letter, last_letter}
use Rattle.aim_mail.proofs.Responses.{lawful_last, kept_from-last}

pub asks-append : (xs ys : List Letter) → asks (xs ++ ys) ≡ asks xs ++ asks ys
asks-append [] ys = refl
asks-append (x ∷ xs) ys = ap (λ l. asked x.word ++ l) (asks-append xs ys) ∙ sym (append_assoc (asked x.word) (asks xs) (asks ys))

or_assoc : (a b c : Bool) → (a || (b || c)) ≡ ((a || b) || c)
or_assoc true b c = refl
or_assoc false b c = refl

pub has_last-append : (xs ys : List Letter) → has_last (xs ++ ys) ≡ (has_last xs || has_last ys)
has_last-append [] ys = refl
has_last-append (x ∷ xs) ys = ap (λ b. is_last x.word || b) (has_last-append xs ys) ∙ or_assoc (is_last x.word) (has_last xs) (has_last ys)

pub pairs-snoc : (as' : List Ask) (rs : List Response) (a : Ask) (r : Response) → length as' ≡ length rs → pairs (as' ++ a ∷ []) (rs ++ r ∷ []) ≡ pairs as' rs ++ call_of a r.answer ∷ []
pairs-snoc [] [] a r e = refl
pairs-snoc [] (x ∷ rs) a r e = absurd (omega (arith, e))
pairs-snoc (x ∷ as') [] a r e = absurd (omega (arith, e))
pairs-snoc (x ∷ as') (y ∷ rs) a r e = ap (λ l. call_of x y.answer ∷ l) (pairs-snoc as' rs a r (omega (arith, e)))

pub open_more : (sent : List Letter) (heard : List Response) (from moment : ℕ) (p : Request) (r : Response) → IsOpen sent heard → IsOpen (sent ++ call_letter from moment p ∷ []) (heard ++ r ∷ [])
open_more sent heard from moment p r h = record {
  each = ap length (asks-append sent (call_letter from moment p ∷ [])) ∙ (let e = h.each in omega (arith, e, length-append (asks sent) (ask moment p ∷ []), length-append heard (r ∷ [])));
  going = has_last-append sent (call_letter from moment p ∷ []) ∙ ap (λ b. b || false) h.going;
}

-- one call more is one item more
pub calls_more : (sent : List Letter) (heard : List Response) (from moment : ℕ) (p : Request) (r : Response) → IsOpen sent heard
    → calls_in (sent ++ call_letter from moment p ∷ []) (heard ++ r ∷ []) ≡ calls_in sent heard ++ call_of (ask moment p) r.answer ∷ []
calls_more sent heard from moment p r h = ap (λ l. pairs l (heard ++ r ∷ [])) (asks-append sent (call_letter from moment p ∷ [])) ∙ pairs-snoc (asks sent) heard (ask moment p) r h.each

pub ends_so : (sent : List Letter) (heard : List Response) (from : ℕ) → IsOpen sent heard → IsEnded (sent ++ last_letter from ∷ []) heard
ends_so sent heard from h = record {
  calls = sent;
  last = last_letter from;
  is = refl;
  word = refl;
  each = ap length (asks-append sent (last_letter from ∷ []) ∙ append-nil (asks sent)) ∙ h.each;
  going = h.going;
}

-- the last word is no call
pub calls_ended : (sent : List Letter) (heard : List Response) (from : ℕ) → calls_in (sent ++ last_letter from ∷ []) heard ≡ calls_in sent heard
calls_ended sent heard from = ap (λ l. pairs l heard) (asks-append sent (last_letter from ∷ []) ∙ append-nil (asks sent))

pub no_more : {A : Type 0} → (xs ys : List A) → length (xs ++ ys) ≡ length xs → ys ≡ []
no_more xs [] e = refl
no_more xs (y ∷ ys) e = let n = length-append xs (y ∷ ys) in absurd (omega (arith, n, e))

-- a book keeps one sheet at most for a vehicle
pub kept_one : (v : ℕ) (h : List Entry) → sheets_kept v h ≤ 1
kept_one v h = by_id (option_and_then (λ x. id_in x.entry.reply) (last_confirm (fresh h) v))
  where
    by_test : (b : Bool) → (if b then 0 else 1) ≤ 1
    by_test true = omega arith
    by_test false = omega arith

    by_id : (o : Option ℕ) → sheets_with (fresh h) v o ≤ 1
    by_id None = omega arith
    by_id (Some id) = by_test (is_given_up (fresh h) v id)

-- the last response follows the first one and those between
pub follows : (opening : Response) (first : Option Response) (heard : List Response) (r : Response) → first ≡ Some opening → Lawful first (heard ++ r ∷ []) → Follows opening heard r
follows opening first heard r is l = subst (λ o. IsNext o heard r) is (lawful_last first heard r l)

-- a note that tells as many calls as were made tells all of them
all_noted : (sent seen rest : List Letter) (n : ℕ) → sent ≡ seen ++ rest → length (asks sent) ≡ n → length (asks seen) ≡ n → asks seen ≡ asks sent
all_noted sent seen rest n is a b =
    let split : asks sent ≡ asks seen ++ asks rest = ap asks is ∙ asks-append seen rest in
    let whole : length (asks sent) ≡ length (asks seen ++ asks rest) = ap length split in
    let none : asks rest ≡ [] = no_more (asks seen) (asks rest) (omega (arith, whole, a, b)) in
    sym (split ∙ ap (λ l. asks seen ++ l) none ∙ append-nil (asks seen))

-- the number that comes with the last response is the one of the client's calls
pub kept_told : (opening : Response) (p : ℕ) (sent rest : List Letter) (heard : List Response) (r : Response) → Follows opening heard r → opening.to ≡ p → sent ≡ of p r.note.got ++ rest
    → length (asks sent) ≡ length heard + 1 → r.kept ≡ sheets_kept p (entries_of p (calls_in sent (heard ++ r ∷ [])))
kept_told opening p sent rest heard r f to is each =
    let calls : length (asks (of p r.note.got)) ≡ length heard + 1 = ap (λ v. length (asks (of v r.note.got))) (sym to) ∙ f.calls in
    f.kept ∙ ap (λ v. sheets_kept v (entries_of v (calls_in (of v r.note.got) (heard ++ r ∷ [])))) to
    ∙ ap (λ l. sheets_kept p (entries_of p (pairs l (heard ++ r ∷ [])))) (all_noted sent (of p r.note.got) rest (length heard + 1) is each calls)

-- one call more is one ask more
asks_more : (sent : List Letter) (heard : List Response) (from moment : ℕ) (p : Request) → IsOpen sent heard → length (asks (sent ++ call_letter from moment p ∷ [])) ≡ length heard + 1
asks_more sent heard from moment p h = ap length (asks-append sent (call_letter from moment p ∷ [])) ∙ (let e = h.each in omega (arith, e, length-append (asks sent) (ask moment p ∷ [])))

-- what the last response tells a client: of its sheets, and of the number kept
pub record ComesBack (port : PortModel) (inlet : InletModel) (letter : Letter) (r : Response) : Type 0 where
  pub room : (n : ℕ) → IfSome port.setting (λ s. n ≡ s.layout.grid.spans) → r.sheets.room ≡ n
  pub count : r.sheets.count + kept_after (inlet.heard ++ r ∷ []) ≡ kept_after inlet.heard + 2
  pub few : r.sheets.count ≤ 3
  pub one : kept_after (inlet.heard ++ r ∷ []) ≤ 1
  pub kept : IsKept (client_of (posted port letter) (heard_on inlet r))

room_if : (setting : Option MailSetting) (terms : MailSetting) (n : ℕ) → setting ≡ Some terms → IfSome setting (λ s. n ≡ s.layout.grid.spans) → terms.layout.grid.spans ≡ n
room_if setting terms n is room = sym (subst (λ o. IfSome o (λ s. n ≡ s.layout.grid.spans)) is room)

pub still_told : (port : PortModel) (first : Option Response) (letter : Letter) → IsTold port first → IsTold (posted port letter) first
still_told port first letter told = record { terms = told.terms; is = told.is; told = told.told }

-- the note of the last response is of the channel of the port
pub noted : (port : PortModel) (inlet : InletModel) (r : Response) → IsTold port inlet.first → Lawful inlet.first (inlet.heard ++ r ∷ []) → (r.note.table ≡ port.table) × (r.note.key ≡ port.key)
noted port inlet r told l =
    let f = follows told.told.opening inlet.first inlet.heard r told.told.is l in
    (f.table ∙ told.told.table, f.key ∙ told.told.key)

pub comes_back : (port : PortModel) (inlet : InletModel) (from moment : ℕ) (p : Request) (r : Response) → IsOpen port.sent inlet.heard → IsTold port inlet.first → IsKept (client_of port inlet)
    → Lawful inlet.first (inlet.heard ++ r ∷ []) → Begun (Some port.from) (port.sent ++ call_letter from moment p ∷ []) r.note.got → ComesBack port inlet (call_letter from moment p) r
comes_back port inlet from moment p r going told kept l begun =
    let first = told.told in
    let f = follows first.opening inlet.first inlet.heard r first.is l in
    let same : kept_after (inlet.heard ++ r ∷ []) ≡ r.kept = kept_from-last 0 inlet.heard r in
    let now : r.kept ≡ sheets_kept port.from (entries_of port.from (calls_in (port.sent ++ call_letter from moment p ∷ []) (inlet.heard ++ r ∷ []))) =
    kept_told first.opening port.from (port.sent ++ call_letter from moment p ∷ []) begun.0 inlet.heard r f first.to begun.1 (asks_more port.sent inlet.heard from moment p going) in
    let small : kept_after inlet.heard ≤ 1 = subst (λ n. n ≤ 1) (sym kept) (kept_one port.from (entries_of port.from (calls_in port.sent inlet.heard))) in
    let last : r.kept ≤ 1 = subst (λ n. n ≤ 1) (sym now) (kept_one port.from (entries_of port.from (calls_in (port.sent ++ call_letter from moment p ∷ []) (inlet.heard ++ r ∷ [])))) in
    let count = f.count in
    record {
      room = λ n is. f.room ∙ first.sheets ∙ room_if port.setting told.terms n told.is is;
      count = omega (arith, count, same);
      few = omega (arith, count, small);
      one = omega (arith, last, same);
      kept = same ∙ now;
    }

-- a client after one call more
pub called : (port : PortModel) (inlet : InletModel) (from moment : ℕ) (p : Request) (r : Response) → IsOpen port.sent inlet.heard
    → client_of (posted port (call_letter from moment p)) (heard_on inlet r)
    ≡ record (client_of port inlet) { calls = calls_in port.sent inlet.heard ++ (record { moment = moment; message = p.message; answer = r.answer }) ∷ []; kept = kept_after (inlet.heard ++ r ∷ []) }
called port inlet from moment p r h = ap (λ l. record (client_of port inlet) { calls = l; kept = kept_after (inlet.heard ++ r ∷ []) }) (calls_more port.sent inlet.heard from moment p r h)

-- a client after its last word
pub finished : (port : PortModel) (inlet : InletModel) (from : ℕ) → client_of (posted port (last_letter from)) inlet ≡ client_of port inlet
finished port inlet from = ap (λ l. record (client_of port inlet) { calls = l }) (calls_ended port.sent inlet.heard from)

pub servable_if : (setting : Option MailSetting) (terms : MailSetting) (moment : ℕ) (p : Request) → setting ≡ Some terms → moment ≤ LATEST_MOMENT → IfSome setting (λ s. IsPreparedFor s.layout p) → IsServable setting moment p
servable_if setting terms moment p is early prepared = subst (λ o. IsServable o moment p) (sym is) (early, subst (λ o. IfSome o (λ s. IsPreparedFor s.layout p)) is prepared)
