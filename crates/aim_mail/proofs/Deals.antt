-- What the server knows of what it served.
use Rattle.std.proofs.Common.{◌≡◌, ◌≢◌, inl, inr, ⊎_elim, ℕ, suc, ◌+◌, ◌<◌, ◌≤◌, Bool, true, false, List, [], ◌∷◌, ◌++◌, map, length, set, sym, refl, ap, ◌∙◌, subst, append_assoc, append-nil, length-append, arith, Ok, Err, zero, get_or}
use Rattle.std.specs.Prelude.{◌||◌, ◌==◌, ◌↔◌, IfOk, OnErr, IsErr, Some}
use Rattle.aim_book.specs.declared.book.Full.{Full}
use Rattle.std.proofs.lemmas.List.{map-append, length-map}
use Rattle.std.proofs.lemmas.List.Elements.{filter-append}
use mathlib.Core.Option.{some, some-injective}
use mathlib.Core.Logic.{dite}
use native.Mathlib.Decide.{ℕ_discrete}
use lib.ListN.{get_elem?}
use Rattle.atomic_table.proofs.Lists.{at_set, at_index, set_here, set_else}
use Rattle.aim_messages.specs.declared.entries.Act.TheVariants as act
use Rattle.aim_messages.specs.declared.entries.Entry.{Entry}
use Rattle.aim_messages.specs.declared.replies.Reply.{Reply}
use Rattle.aim_requests.specs.Requests.{Request}
use Rattle.aim_rules.specs.Legal.{IsLegal}
use Rattle.aim_book.specs.Sheets.{own, sheets_kept}
use Rattle.aim_book.specs.State.{State}
use Rattle.aim_mail.specs.declared.letter.Letter.{Letter}
use Rattle.aim_mail.specs.declared.response.Response.{Response}
use Rattle.aim_mail.specs.Asks.{ask, asks, call_of, calls_in, has_last, pairs}
use Rattle.aim_mail.specs.Calls.{Answer, Channel, IsReply, IsFull, entry_of, entries_of}
use Rattle.aim_mail.specs.Post.{Every, of, IntakeModel}
use Rattle.aim_mail.specs.Slips.{IsNext, Lawful, SlipModel, put_on}
use Rattle.aim_mail.specs.Mail.{call_letter, last_letter, Deal, deal, deals_of, entries_in, Owes, Stands, IsSameBook, IsSameSlip, IsSameIntake, AreSameSlips, HasEnded, channel_of, mail_of, setting_of}
use Rattle.aim_mail.proofs.Posts.{Every-append, of_else, of_own}
use Rattle.aim_mail.proofs.Responses.{kept_from-last, lawful_more}
use Rattle.aim_mail.proofs.CallLemmas.{asks-append, has_last-append, pairs-snoc}
use Rattle.aim_mail.proofs.OwnEntries.{deals_else, deals_own, entries_in-append, entries_of-append, own_are, own_entry}

-- one call more, as the letters tell it
asked_more : (got : List Letter) (log log' : List Deal) (from moment : ℕ) (p : Request) (a : Answer) → log' ≡ log ++ deal from (ask moment p) a ∷ []
    → ((q : ℕ) → asks (of q got) ≡ map (λ d. d.ask) (deals_of q log))
    → (q : ℕ) → asks (of q (got ++ call_letter from moment p ∷ [])) ≡ map (λ d. d.ask) (deals_of q log')
asked_more got log log' from moment p a is old q =
    let d : Deal = deal from (ask moment p) a in
    let x : Letter = call_letter from moment p in
    dite (ℕ_discrete q from)
    (λ same. ap asks (of_own q got x (sym same)) ∙ asks-append (of q got) (x ∷ []) ∙ ap (λ l. l ++ ask moment p ∷ []) (old q)
    ∙ sym (map-append (λ e. e.ask) (deals_of q log) (d ∷ [])) ∙ ap (map (λ e. e.ask)) (sym (ap (deals_of q) is ∙ deals_own q log d (sym same))))
    (λ other. ap asks (of_else q got x other) ∙ old q ∙ ap (map (λ e. e.ask)) (sym (ap (deals_of q) is ∙ deals_else q log d other)))

-- what the server knows of a client stays, where another's letter came
owes_else : (q : ℕ) (on : Channel Letter) (spans : ℕ) (journal journal' : List Entry) (log log' : List Deal) (got got' : List Letter) (s : SlipModel)
    → sheets_kept q journal' ≡ sheets_kept q journal → deals_of q log' ≡ deals_of q log → of q got' ≡ of q got → Owes q on spans journal log got s → Owes q on spans journal' log' got' s
owes_else q on spans journal journal' log log' got got' s je de ge h = record {
  put = h.put ∙ ap (map (λ d. d.answer)) (sym de);
  lawful = h.lawful;
  told = h.told;
  kept = h.kept ∙ sym je;
  ended = λ e. ap has_last ge ∙ h.ended e;
}

or_true : (a b : Bool) → a ≡ true → (a || b) ≡ true
or_true a b is = ap (λ c. c || b) is

or_second : (a b : Bool) → b ≡ true → (a || b) ≡ true
or_second true b is = refl
or_second false b is = is

owes_own : (on : Channel Letter) (from moment spans : ℕ) (journal journal' : List Entry) (log log' : List Deal) (got : List Letter) (s : SlipModel) (p : Request) (r : Response)
    → log' ≡ log ++ deal from (ask moment p) r.answer ∷ [] → Lawful s.first (s.put ++ r ∷ []) → r.kept ≡ sheets_kept from journal'
    → Owes from on spans journal log got s → Owes from on spans journal' log' (got ++ call_letter from moment p ∷ []) (put_on s r)
owes_own on from moment spans journal journal' log log' got s p r is lawful kept h =
    let d : Deal = deal from (ask moment p) r.answer in
    let x : Letter = call_letter from moment p in
    record {
      put = map-append (λ z. z.answer) s.put (r ∷ []) ∙ ap (λ l. l ++ r.answer ∷ []) h.put ∙ sym (map-append (λ z. z.answer) (deals_of from log) (d ∷ []))
          ∙ ap (map (λ z. z.answer)) (sym (ap (deals_of from) is ∙ deals_own from log d refl));
      lawful = lawful;
      told = h.told;
      kept = kept_from-last 0 s.put r ∙ kept;
      ended = λ e. ap has_last (of_own from got x refl) ∙ has_last-append (of from got) (x ∷ []) ∙ or_true (has_last (of from got)) _ (h.ended e);
    }

each_slip : (on : Channel Letter) (from moment spans : ℕ) (journal journal' : List Entry) (log log' : List Deal) (got : List Letter) (slips : List SlipModel) (s : SlipModel) (p : Request) (r : Response)
    → log' ≡ log ++ deal from (ask moment p) r.answer ∷ [] → Lawful s.first (s.put ++ r ∷ []) → r.kept ≡ sheets_kept from journal'
    → ((q : ℕ) → q ≢ from → sheets_kept q journal' ≡ sheets_kept q journal)
    → get_elem? slips from ≡ some s
    → ((q : ℕ) (z : SlipModel) → get_elem? slips q ≡ some z → Owes q on spans journal log got z)
    → (q : ℕ) (z : SlipModel) → get_elem? (set slips from (put_on s r)) q ≡ some z → Owes q on spans journal' log' (got ++ call_letter from moment p ∷ []) z
each_slip on from moment spans journal journal' log log' got slips s p r is lawful kept others at old q z at' =
    let d : Deal = deal from (ask moment p) r.answer in
    let x : Letter = call_letter from moment p in
    ⊎_elim
    (λ (e : (q ≡ from) × (put_on s r ≡ z)). subst (λ (y : ℕ × SlipModel). Owes y.0 on spans journal' log' (got ++ x ∷ []) y.1) (λ i. (sym e.0 i, e.1 i))
    (owes_own on from moment spans journal journal' log log' got s p r is lawful kept (old from s at)))
    (λ (e : (q ≢ from) × (get_elem? slips q ≡ some z)). owes_else q on spans journal journal' log log' got (got ++ x ∷ []) z (others q e.0) (ap (deals_of q) is ∙ deals_else q log d e.0) (of_else q got x e.0) (old q z e.1))
    (at_set slips from q (put_on s r) z at')

pub length-set : {A : Type 0} → (xs : List A) (i : ℕ) (x : A) → length (set xs i x) ≡ length xs
length-set [] i x = refl
length-set (y ∷ xs) zero x = refl
length-set (y ∷ xs) (suc i) x = ap suc (length-set xs i x)

-- the entry that a call with a reply makes
abbrev pub entry : ℕ → ℕ → Request → Reply → Entry
entry from moment p reply = record { caller = from; moment = moment; act = act.Message p.message; reply = reply }

-- what the book says of one call
pub record Serves (book book' : State) (from moment : ℕ) (p : Request) (answer : Answer) : Type 0 where
  pub same : IsSameBook book book'
  pub legal : IsLegal book'.layout book'.vehicles book'.journal
  pub made : IfOk answer (λ reply. book'.journal ≡ book.journal ++ entry from moment p reply ∷ [])
  pub stays : OnErr answer (book'.journal ≡ book.journal)
  pub full : IsErr answer ↔ (length book.journal ≡ book.room)

-- what the clauses of the book say of one call
pub serves_of : (book book' : State) (from moment : ℕ) (p : Request) (a : Answer) → IfOk a (λ r. book' ≡ record book { journal = book.journal ++ entry from moment p r ∷ [] }) → OnErr a (book' ≡ book)
    → (IsErr a ↔ (length book.journal ≡ book.room)) → IsLegal book'.layout book'.vehicles book'.journal → Serves book book' from moment p a
serves_of book book' from moment p (Ok reply) made stays full legal = record {
  same = record { layout = ap (λ b. b.layout) made; vehicles = ap (λ b. b.vehicles) made; room = ap (λ b. b.room) made };
  legal = legal;
  made = ap (λ b. b.journal) made;
  stays = tt;
  full = full;
}
serves_of book book' from moment p (Err e) made stays full legal = record {
  same = record { layout = ap (λ b. b.layout) stays; vehicles = ap (λ b. b.vehicles) stays; room = ap (λ b. b.room) stays };
  legal = legal;
  made = tt;
  stays = ap (λ b. b.journal) stays;
  full = full;
}

below_room : (a b : ℕ) → a ≤ b → ¬ (a ≡ b) → a < b
below_room a b le ne = grind (arith, le, ne)

ok_not_err : (reply : Reply) → IsErr {T = Reply} {E = Full} (Ok reply) → ⊥
ok_not_err reply e = cc

module _ (book book' : State) (on : Channel Letter) (got : List Letter) (slips : List SlipModel) (from moment : ℕ) (p : Request) (s : SlipModel) (r : Response)
    (h : Stands book on got slips) (from_is : from < book.vehicles) (at : get_elem? slips from ≡ some s)
    (lawful : Lawful s.first (s.put ++ r ∷ [])) (kept : r.kept ≡ sheets_kept from book'.journal)
    (others : (v : ℕ) (es : List Entry) (e : Entry) → (e.caller ≡ v → ⊥) → sheets_kept v (es ++ e ∷ []) ≡ sheets_kept v es) where
  spans_same : IsSameBook book book' → book.layout.grid.spans ≡ book'.layout.grid.spans
  spans_same same = ap (λ i. i.grid.spans) (sym same.layout)

  answered_ok : (reply : Reply) → r.answer ≡ Ok reply → IsSameBook book book' → IsLegal book'.layout book'.vehicles book'.journal → ¬ (length book.journal ≡ book.room)
      → book'.journal ≡ book.journal ++ entry from moment p reply ∷ [] → Stands book' on (got ++ call_letter from moment p ∷ []) (set slips from (put_on s r))
  answered_ok reply is same legal room more =
      let d : Deal = deal from (ask moment p) r.answer in
      let longer : length book'.journal ≡ length book.journal + 1 = ap length more ∙ length-append book.journal _ in
      let none : h.refused ≡ [] = ⊎_elim (λ e. e) (λ (e : length book.journal ≡ book.room). absurd (room e)) h.full in
      let under : length book.journal < book.room = below_room (length book.journal) book.room h.within room in
      let log_is : (h.replied ++ d ∷ []) ++ [] ≡ (h.replied ++ h.refused) ++ d ∷ [] = append-nil (h.replied ++ d ∷ []) ∙ ap (λ l. l ++ d ∷ []) (sym (append-nil h.replied) ∙ ap (λ l. h.replied ++ l) (sym none)) in
      record {
        replied = h.replied ++ d ∷ [];
        refused = [];
        replies = Every-append _ h.replied (d ∷ []) h.replies (subst IsReply (sym is) tt, tt);
        refusals = tt;
        full = inl refl;
        asked = asked_more got (h.replied ++ h.refused) _ from moment p r.answer log_is h.asked;
        count = length-set slips from _ ∙ h.count ∙ sym same.vehicles;
        each = subst (λ n. (q : ℕ) (z : SlipModel) → get_elem? (set slips from (put_on s r)) q ≡ some z → Owes q on n book'.journal ((h.replied ++ d ∷ []) ++ []) (got ++ call_letter from moment p ∷ []) z) (spans_same same)
            (each_slip on from moment book.layout.grid.spans book.journal book'.journal (h.replied ++ h.refused) _ got slips s p r log_is lawful kept
            (λ q other. ap (sheets_kept q) more ∙ others q book.journal (entry from moment p reply) (λ e. other (sym e))) at h.each);
        entries = more ∙ ap (λ l. l ++ entry from moment p reply ∷ []) h.entries ∙ sym (entries_in-append h.replied (d ∷ []) ∙ ap (λ a. entries_in h.replied ++ (entry_of from moment p.message a ++ [])) is);
        known = Every-append _ h.replied (d ∷ []) (subst (λ n. Every (λ z. z.vehicle < n) h.replied) (sym same.vehicles) h.known) (subst (λ n. from < n) (sym same.vehicles) from_is, tt);
        legal = legal;
        within = let r' = same.room in omega (arith, longer, under, r');
      }

  answered_full : (e : Full) → r.answer ≡ Err e → IsSameBook book book' → IsLegal book'.layout book'.vehicles book'.journal → length book.journal ≡ book.room
      → book'.journal ≡ book.journal → Stands book' on (got ++ call_letter from moment p ∷ []) (set slips from (put_on s r))
  answered_full e is same legal room keeps =
      let d : Deal = deal from (ask moment p) r.answer in
      let log_is : h.replied ++ (h.refused ++ d ∷ []) ≡ (h.replied ++ h.refused) ++ d ∷ [] = sym (append_assoc h.replied h.refused (d ∷ [])) in
      let n : length book'.journal ≡ length book.journal = ap length keeps in
      record {
        replied = h.replied;
        refused = h.refused ++ d ∷ [];
        replies = h.replies;
        refusals = Every-append _ h.refused (d ∷ []) h.refusals (subst IsFull (sym is) tt, tt);
        full = inr (n ∙ room ∙ sym same.room);
        asked = asked_more got (h.replied ++ h.refused) _ from moment p r.answer log_is h.asked;
        count = length-set slips from _ ∙ h.count ∙ sym same.vehicles;
        each = subst (λ n. (q : ℕ) (z : SlipModel) → get_elem? (set slips from (put_on s r)) q ≡ some z → Owes q on n book'.journal (h.replied ++ (h.refused ++ d ∷ [])) (got ++ call_letter from moment p ∷ []) z) (spans_same same)
            (each_slip on from moment book.layout.grid.spans book.journal book'.journal (h.replied ++ h.refused) _ got slips s p r log_is lawful kept (λ q other. ap (sheets_kept q) keeps) at h.each);
        entries = keeps ∙ h.entries;
        known = subst (λ n. Every (λ z. z.vehicle < n) h.replied) (sym same.vehicles) h.known;
        legal = legal;
        within = let w = h.within in let r' = same.room in omega (arith, n, w, r');
      }

  by_answer : (a : Answer) → r.answer ≡ a → Serves book book' from moment p a → Stands book' on (got ++ call_letter from moment p ∷ []) (set slips from (put_on s r))
  by_answer (Ok reply) is serves = answered_ok reply is serves.same serves.legal (λ e. ok_not_err reply (serves.full.1 e)) serves.made
  by_answer (Err e) is serves = answered_full e is serves.same serves.legal (serves.full.0 refl) serves.stays

-- the slip of the client
pub slip_at : (book : State) (on : Channel Letter) (got : List Letter) (slips : List SlipModel) (from : ℕ) (s : SlipModel) → Stands book on got slips → from < book.vehicles → s ≡ get_or slips from s → get_elem? slips from ≡ some s
slip_at book on got slips from s h less is = let n = h.count in at_index slips from s (omega (arith, n, less)) is

-- the entry of a call comes behind the journal, where it makes one
grows : (book book' : State) (from moment : ℕ) (p : Request) (a : Answer) → Serves book book' from moment p a → book'.journal ≡ book.journal ++ entry_of from moment p.message a
grows book book' from moment p (Ok reply) serves = serves.made
grows book book' from moment p (Err e) serves = serves.stays ∙ sym (append-nil book.journal)

-- the letters with a call more ask one thing more
asks_of_more : (got : List Letter) (from moment : ℕ) (p : Request) → asks (of from (got ++ call_letter from moment p ∷ [])) ≡ asks (of from got) ++ ask moment p ∷ []
asks_of_more got from moment p = ap asks (of_own from got (call_letter from moment p) refl) ∙ asks-append (of from got) (call_letter from moment p ∷ [])

-- what a response says of the call that was served
pub record IsResponse (book book' : State) (on : Channel Letter) (got : List Letter) (from moment : ℕ) (p : Request) (r : Response) : Type 0 where
  pub to : r.to ≡ from
  pub sheets : r.sheets.room ≡ book.layout.grid.spans
  pub count : r.sheets.count + r.kept ≡ sheets_kept from book.journal + 2
  pub kept : r.kept ≡ sheets_kept from book'.journal
  pub table : r.note.table ≡ on.table
  pub key : r.note.key ≡ on.key
  pub note : r.note.got ≡ got ++ call_letter from moment p ∷ []
  pub serves : Serves book book' from moment p r.answer

-- such a response is lawful
pub lawful_put : (book book' : State) (on : Channel Letter) (got : List Letter) (slips : List SlipModel) (from moment : ℕ) (p : Request) (s : SlipModel) (r : Response)
    → ((v : ℕ) (h : List Entry) → sheets_kept v (own v h) ≡ sheets_kept v h) → Stands book on got slips → get_elem? slips from ≡ some s → IsResponse book book' on got from moment p r → Lawful s.first (s.put ++ r ∷ [])
lawful_put book book' on got slips from moment p s r law h at is =
    let o = h.each from s at in
    let first = o.told.opening in
    let kept = o.kept in
    let count = is.count in
    let now : List Letter = got ++ call_letter from moment p ∷ [] in
    let more = asks_of_more got from moment p in
    let n1 : length (asks (of from now)) ≡ length (asks (of from got) ++ ask moment p ∷ []) = ap length more in
    let n2 : length (asks (of from got)) ≡ length (map (λ (d : Deal). d.ask) (deals_of from (h.replied ++ h.refused))) = ap length (h.asked from) in
    let n3 : length (map (λ (r : Response). r.answer) s.put) ≡ length (map (λ (d : Deal). d.answer) (deals_of from (h.replied ++ h.refused))) = ap length o.put in
    let each : length (asks (of from got)) ≡ length s.put =
    omega (arith, n2, n3, length-map (deals_of from (h.replied ++ h.refused)) (λ (d : Deal). d.ask), length-map (deals_of from (h.replied ++ h.refused)) (λ (d : Deal). d.answer), length-map s.put (λ (r : Response). r.answer)) in
    let calls : length (asks (of from now)) ≡ length s.put + 1 = omega (arith, n1, each, length-append (asks (of from got)) (ask moment p ∷ [])) in
    let before : own from book.journal ≡ entries_of from (calls_in (of from got) s.put) = own_are from book.journal h.replied h.refused got s.put h.entries h.refusals (h.asked from) o.put in
    let same : calls_in (of from now) (s.put ++ r ∷ []) ≡ calls_in (of from got) s.put ++ call_of (ask moment p) r.answer ∷ [] = ap (λ l. pairs l (s.put ++ r ∷ [])) more ∙ pairs-snoc (asks (of from got)) s.put (ask moment p) r each in
    let after : own from book'.journal ≡ entries_of from (calls_in (of from now) (s.put ++ r ∷ [])) =
    ap (own from) (grows book book' from moment p r.answer is.serves) ∙ filter-append (λ e. e.caller == from) book.journal (entry_of from moment p.message r.answer)
    ∙ (λ i. before i ++ own_entry from from moment p.message r.answer refl i)
    ∙ ap (λ l. entries_of from (calls_in (of from got) s.put) ++ l) (sym (append-nil (entry_of from moment p.message r.answer)))
    ∙ sym (ap (entries_of from) same ∙ entries_of-append from (calls_in (of from got) s.put) (call_of (ask moment p) r.answer ∷ [])) in
    lawful_more s.first s.put r o.lawful
    (subst (λ x. IsNext x s.put r) (sym o.told.is) record {
      to = is.to ∙ sym o.told.to;
      room = is.sheets ∙ sym o.told.sheets;
      count = omega (arith, count, kept);
      table = is.table ∙ sym o.told.table;
      key = is.key ∙ sym o.told.key;
      calls = (λ i. length (asks (of (o.told.to i) (is.note i)))) ∙ calls;
      kept = is.kept ∙ sym (law from book'.journal) ∙ ap (sheets_kept from) after
          ∙ sym (λ i. sheets_kept (o.told.to i) (entries_of (o.told.to i) (calls_in (of (o.told.to i) (is.note i)) (s.put ++ r ∷ []))));
    })

-- what the server knows after the response
pub answered : (book book' : State) (on : Channel Letter) (got : List Letter) (slips : List SlipModel) (from moment : ℕ) (p : Request) (s : SlipModel) (r : Response)
    → ((v : ℕ) (h : List Entry) → sheets_kept v (own v h) ≡ sheets_kept v h) → ((v : ℕ) (es : List Entry) (e : Entry) → (e.caller ≡ v → ⊥) → sheets_kept v (es ++ e ∷ []) ≡ sheets_kept v es)
    → Stands book on got slips → from < book.vehicles → get_elem? slips from ≡ some s → IsResponse book book' on got from moment p r → Stands book' on r.note.got (set slips from (put_on s r))
answered book book' on got slips from moment p s r law others h from_is at is =
    subst (λ l. Stands book' on l (set slips from (put_on s r))) (sym is.note)
    (by_answer book book' on got slips from moment p s r h from_is at (lawful_put book book' on got slips from moment p s r law h at is) is.kept others r.answer refl is.serves)

pub same_slips : (xs : List SlipModel) (i : ℕ) (s t : SlipModel) → get_elem? xs i ≡ some s → i < length xs → IsSameSlip s t → AreSameSlips xs (set xs i t)
same_slips xs i s t at less same = (
  length-set xs i t,
  λ p a at'. dite (ℕ_discrete p i)
      (λ e. (t, ap (λ j. get_elem? (set xs i t) j) e ∙ set_here xs i t less, subst (λ z. IsSameSlip z t) (some-injective s a (sym at ∙ ap (get_elem? xs) (sym e) ∙ at')) same))
      (λ e. (a, set_else xs i p t e ∙ at', record { table = refl; key = refl; ended = λ z. z })),
)

pub same_slips_refl : (xs : List SlipModel) → AreSameSlips xs xs
same_slips_refl xs = (refl, λ p a at. (a, at, record { table = refl; key = refl; ended = λ z. z }))

pub same_slips_trans : (xs ys zs : List SlipModel) → AreSameSlips xs ys → AreSameSlips ys zs → AreSameSlips xs zs
same_slips_trans xs ys zs f g = (
  g.0 ∙ f.0,
  λ p a at.
      let b = f.1 p a at in
      let c = g.1 p b.0 b.1 in
      (c.0, c.1, record { table = c.2.table ∙ b.2.table; key = c.2.key ∙ b.2.key; ended = λ z. c.2.ended (b.2.ended z) }),
)

pub ended_ends : (slips : List SlipModel) (from : ℕ) (s t : SlipModel) → get_elem? slips from ≡ some s → t ≡ record { table = s.table; key = s.key; first = s.first; put = s.put; ended = true }
    → (book : State) (on : Channel Letter) (got : List Letter) → Stands book on got slips → Stands book on (got ++ last_letter from ∷ []) (set slips from t)
ended_ends slips from s t at is book on got h =
    let x : Letter = last_letter from in
    record {
      replied = h.replied;
      refused = h.refused;
      replies = h.replies;
      refusals = h.refusals;
      full = h.full;
      asked = λ q. dite (ℕ_discrete q from)
          (λ same. ap asks (of_own q got x (sym same)) ∙ asks-append (of q got) (x ∷ []) ∙ append-nil (asks (of q got)) ∙ h.asked q)
          (λ other. ap asks (of_else q got x other) ∙ h.asked q);
      count = length-set slips from t ∙ h.count;
      each = λ q z at'. ⊎_elim
          (λ (e : (q ≡ from) × (t ≡ z)). let o = h.each from s at in
          subst (λ (y : ℕ × SlipModel). Owes y.0 on book.layout.grid.spans book.journal (h.replied ++ h.refused) (got ++ x ∷ []) y.1) (λ i. (sym e.0 i, (sym is ∙ e.1) i))
          (end_own from on book.layout.grid.spans book.journal (h.replied ++ h.refused) got s o))
          (λ (e : (q ≢ from) × (get_elem? slips q ≡ some z)). owes_else q on book.layout.grid.spans book.journal book.journal (h.replied ++ h.refused) (h.replied ++ h.refused) got (got ++ x ∷ []) z refl refl (of_else q got x e.0) (h.each q z e.1))
          (at_set slips from q t z at');
      entries = h.entries;
      known = h.known;
      legal = h.legal;
      within = h.within;
    }
  where
    end_own : (from : ℕ) (on : Channel Letter) (spans : ℕ) (journal : List Entry) (log : List Deal) (got : List Letter) (s : SlipModel) → Owes from on spans journal log got s
        → Owes from on spans journal log (got ++ last_letter from ∷ []) record { table = s.table; key = s.key; first = s.first; put = s.put; ended = true }
    end_own from on spans journal log got s o = record {
      put = o.put;
      lawful = o.lawful;
      told = o.told;
      kept = o.kept;
      ended = λ _. ap has_last (of_own from got (last_letter from) refl) ∙ has_last-append (of from got) (last_letter from ∷ []) ∙ or_second (has_last (of from got)) true refl;
    }

some_at : (xs : List SlipModel) (p : ℕ) → p < length xs → (s : SlipModel) × (get_elem? xs p ≡ some s)
some_at [] p less = absurd (omega (arith, less))
some_at (x ∷ xs) zero less = (x, refl)
some_at (x ∷ xs) (suc p) less = some_at xs p (omega (arith, less))

pub still_ended : (xs ys : List SlipModel) (p : ℕ) → p < length xs → AreSameSlips xs ys → HasEnded xs p → HasEnded ys p
still_ended xs ys p less same h s at =
    let a = some_at xs p less in
    let b = same.1 p a.0 a.1 in
    ap (λ z. z.ended) (some-injective s b.0 (sym at ∙ b.1)) ∙ b.2.ended (h a.0 a.1)

pub ended_at : (slips : List SlipModel) (p : ℕ) (s : SlipModel) → p < length slips → s ≡ get_or slips p s → s.ended ≡ true → HasEnded slips p
ended_at slips p s less is e t at = ap (λ z. z.ended) (some-injective t s (sym at ∙ at_index slips p s less is)) ∙ e

-- one client more has ended
pub ended_more : (xs ys : List SlipModel) (k : ℕ) → k < length xs → AreSameSlips xs ys → ((p : ℕ) → p < k → HasEnded xs p) → HasEnded ys k → (p : ℕ) → p < k + 1 → HasEnded ys p
ended_more xs ys k less same old new p under =
    dite (ℕ_discrete p k)
    (λ e. subst (HasEnded ys) (sym e) new)
    (λ e. let u : p < k = omega (arith, under, e) in still_ended xs ys p (omega (arith, u, less)) same (old p u))

-- the channels of the same slips are the same
pub same_channels : (xs ys : List SlipModel) → AreSameSlips xs ys → map channel_of ys ≡ map channel_of xs
same_channels [] [] same = refl
same_channels [] (y ∷ ys) same = let n = same.0 in absurd (omega (arith, n))
same_channels (x ∷ xs) [] same = let n = same.0 in absurd (omega (arith, n))
same_channels (x ∷ xs) (y ∷ ys) same =
    let b = same.1 0 x refl in
    let is : y ≡ b.0 = some-injective y b.0 b.1 in
    let head : channel_of y ≡ channel_of x = ap channel_of is ∙ (λ i. record { table = b.2.table i; key = b.2.key i }) in
    let n = same.0 in
    let rest : map channel_of ys ≡ map channel_of xs = same_channels xs ys (omega (arith, n), λ p a at. same.1 (suc p) a at) in
    λ i. head i ∷ rest i

-- what no call changes
pub setting_same : (a b : State) → IsSameBook a b → setting_of b ≡ setting_of a
setting_same a b same = λ i. record { layout = same.layout i; vehicles = same.vehicles i; room = same.room i }

pub same_book_trans : (a b c : State) → IsSameBook a b → IsSameBook b c → IsSameBook a c
same_book_trans a b c f g = record { layout = g.layout ∙ f.layout; vehicles = g.vehicles ∙ f.vehicles; room = g.room ∙ f.room }

pub same_intake_trans : (a b c : IntakeModel) → IsSameIntake a b → IsSameIntake b c → IsSameIntake a c
same_intake_trans a b c f g = record { table = g.table ∙ f.table; key = g.key ∙ f.key; setting = g.setting ∙ f.setting; made = g.made ∙ f.made; known = g.known ∙ f.known }

-- what was said of the intake and the book is said of them after calls
pub still_made : (a b : State) (x y : IntakeModel) → IsSameBook a b → IsSameIntake x y → (x.made ≡ a.vehicles) × (x.setting ≡ Some (setting_of a)) → (y.made ≡ b.vehicles) × (y.setting ≡ Some (setting_of b))
still_made a b x y same kept is = (kept.made ∙ is.0 ∙ sym same.vehicles, kept.setting ∙ is.1 ∙ ap Some (sym (setting_same a b same)))

pub run_same : (a b : State) (x y : IntakeModel) (xs ys : List SlipModel) → IsSameBook a b → IsSameIntake x y → AreSameSlips xs ys → mail_of (setting_of b) y ys ≡ mail_of (setting_of a) x xs
run_same a b x y xs ys book intake slips =
    let s : setting_of b ≡ setting_of a = setting_same a b book in
    let c : map channel_of ys ≡ map channel_of xs = same_channels xs ys slips in
    λ i. record { setting = s i; asked_on = record { table = intake.table i; key = intake.key i }; answers_on = c i }
