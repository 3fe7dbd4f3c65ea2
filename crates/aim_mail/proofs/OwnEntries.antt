-- A vehicle's entries are those of the calls that the server knows.
use Rattle.std.proofs.Common.{◌≡◌, ◌≢◌, ℕ, Bool, true, false, List, [], ◌∷◌, ◌++◌, map, filter, length, sym, refl, ap, ◌∙◌, append_assoc, append-nil, arith, Ok, Err}
use Rattle.std.specs.Prelude.{◌==◌, if◌then◌else◌}
use Rattle.std.proofs.lemmas.List.{map-append}
use Rattle.std.proofs.lemmas.List.Elements.{filter-append}
use Rattle.std.proofs.lemmas.Bool.Decides.{nat_tests}
use mathlib.Core.Logic.{dite}
use native.Mathlib.Decide.{ℕ_discrete}
use Rattle.aim_messages.specs.declared.entries.Entry.{Entry}
use Rattle.aim_messages.specs.declared.messages.Message.{Message}
use Rattle.aim_book.specs.Sheets.{own}
use Rattle.aim_mail.specs.declared.letter.Letter.{Letter}
use Rattle.aim_mail.specs.declared.response.Response.{Response}
use Rattle.aim_mail.specs.Asks.{asks, call_of, calls_in, pairs}
use Rattle.aim_mail.specs.Calls.{Answer, Call, IsFull, entry_of, entries_of}
use Rattle.aim_mail.specs.Post.{Every, of}
use Rattle.aim_mail.specs.Mail.{Deal, deals_of, entries_in}

abbrev pub head_or : {A : Type 0} → A → List A → A
head_or d [] = d
head_or d (x ∷ xs) = x

abbrev rest_of : {A : Type 0} → List A → List A
rest_of [] = []
rest_of (x ∷ xs) = xs

module _ {A : Type 0} where
  pick : (b : Bool) (x : A) → b ≡ false → (if b then x ∷ [] else []) ≡ []
  pick b x is = ap (λ c. if c then x ∷ [] else []) is

  pick' : (b : Bool) (x : A) → b ≡ true → (if b then x ∷ [] else []) ≡ x ∷ []
  pick' b x is = ap (λ c. if c then x ∷ [] else []) is

pub deals-append : (p : ℕ) (xs ys : List Deal) → deals_of p (xs ++ ys) ≡ deals_of p xs ++ deals_of p ys
deals-append p xs ys = filter-append (λ d. d.vehicle == p) xs ys

pub deals_own : (p : ℕ) (ds : List Deal) (d : Deal) → d.vehicle ≡ p → deals_of p (ds ++ d ∷ []) ≡ deals_of p ds ++ d ∷ []
deals_own p ds d is = let test : (d.vehicle == p) ≡ true = grind (arith, nat_tests, is) in deals-append p ds (d ∷ []) ∙ ap (λ l. deals_of p ds ++ l) (pick' (d.vehicle == p) d test)

pub deals_else : (p : ℕ) (ds : List Deal) (d : Deal) → p ≢ d.vehicle → deals_of p (ds ++ d ∷ []) ≡ deals_of p ds
deals_else p ds d other = let test : (d.vehicle == p) ≡ false = grind (arith, nat_tests, other) in deals-append p ds (d ∷ []) ∙ ap (λ l. deals_of p ds ++ l) (pick (d.vehicle == p) d test) ∙ append-nil (deals_of p ds)

pub entries_in-append : (xs ys : List Deal) → entries_in (xs ++ ys) ≡ entries_in xs ++ entries_in ys
entries_in-append [] ys = refl
entries_in-append (d ∷ xs) ys = ap (λ l. entry_of d.vehicle d.ask.moment d.ask.message d.answer ++ l) (entries_in-append xs ys) ∙ sym (append_assoc (entry_of d.vehicle d.ask.moment d.ask.message d.answer) (entries_in xs) (entries_in ys))

abbrev pub call : Deal → Call
call d = call_of d.ask d.answer

pub pairs_deals : (ds : List Deal) (rs : List Response) → map (λ r. r.answer) rs ≡ map (λ d. d.answer) ds → pairs (map (λ d. d.ask) ds) rs ≡ map call ds
pairs_deals [] rs e = refl
pairs_deals (d ∷ ds) [] e = let n = ap length e in absurd (omega (arith, n))
pairs_deals (d ∷ ds) (r ∷ rs) e =
    let h : r.answer ≡ d.answer = ap (head_or r.answer) e in
    let t : pairs (map (λ d. d.ask) ds) rs ≡ map call ds = pairs_deals ds rs (ap rest_of e) in
    λ i. call_of d.ask (h i) ∷ t i

pub Every_test : (P : Deal → Type 0) (p : Deal → Bool) (ds : List Deal) → Every P ds → Every P (filter p ds)
Every_test P p [] h = tt
Every_test P p (d ∷ ds) h = by_test (p d) (Every_test P p ds h.1)
  where
    by_test : (b : Bool) → Every P (filter p ds) → Every P (if b then d ∷ filter p ds else filter p ds)
    by_test true k = (h.0, k)
    by_test false k = k

pub Every_call : (P : Answer → Type 0) (ds : List Deal) → Every (λ d. P d.answer) ds → Every (λ c. P c.answer) (map call ds)
Every_call P [] h = tt
Every_call P (d ∷ ds) h = (h.0, Every_call P ds h.1)

pub entries_of-append : (v : ℕ) (xs ys : List Call) → entries_of v (xs ++ ys) ≡ entries_of v xs ++ entries_of v ys
entries_of-append v [] ys = refl
entries_of-append v (c ∷ xs) ys = ap (λ l. entry_of v c.moment c.message c.answer ++ l) (entries_of-append v xs ys) ∙ sym (append_assoc (entry_of v c.moment c.message c.answer) (entries_of v xs) (entries_of v ys))

none_of : (v m : ℕ) (message : Message) (r : Answer) → IsFull r → entry_of v m message r ≡ []
none_of v m message (Ok reply) h = absurd h
none_of v m message (Err e) h = refl

entries_none : (v : ℕ) (cs : List Call) → Every (λ c. IsFull c.answer) cs → entries_of v cs ≡ []
entries_none v [] h = refl
entries_none v (c ∷ cs) h = ap (λ l. l ++ entries_of v cs) (none_of v c.moment c.message c.answer h.0) ∙ entries_none v cs h.1

pub own_entry : (p v m : ℕ) (message : Message) (r : Answer) → v ≡ p → own p (entry_of v m message r) ≡ entry_of p m message r
own_entry p v m message (Ok reply) is = let test : (v == p) ≡ true = grind (arith, nat_tests, is) in ap (λ b. if b then entry_of v m message (Ok reply) else []) test ∙ ap (λ n. entry_of n m message (Ok reply)) is
own_entry p v m message (Err e) is = refl

pub other_entry : (p v m : ℕ) (message : Message) (r : Answer) → v ≢ p → own p (entry_of v m message r) ≡ []
other_entry p v m message (Ok reply) other = let test : (v == p) ≡ false = grind (arith, nat_tests, other) in ap (λ b. if b then entry_of v m message (Ok reply) else []) test
other_entry p v m message (Err e) other = refl

-- a vehicle's entries are those of its calls
entries_are : (p : ℕ) (ds : List Deal) → own p (entries_in ds) ≡ entries_of p (map call (deals_of p ds))
entries_are p [] = refl
entries_are p (d ∷ ds) =
    let first : List Entry = entry_of d.vehicle d.ask.moment d.ask.message d.answer in
    let split : own p (first ++ entries_in ds) ≡ own p first ++ own p (entries_in ds) = filter-append (λ e. e.caller == p) first (entries_in ds) in
    dite (ℕ_discrete d.vehicle p)
    (λ same. let test : (d.vehicle == p) ≡ true = grind (arith, nat_tests, same) in
    split ∙ ap (λ l. l ++ own p (entries_in ds)) (own_entry p d.vehicle d.ask.moment d.ask.message d.answer same) ∙ ap (λ l. entry_of p d.ask.moment d.ask.message d.answer ++ l) (entries_are p ds)
    ∙ ap (λ b. entries_of p (map call (if b then d ∷ deals_of p ds else deals_of p ds))) (sym test))
    (λ other. let test : (d.vehicle == p) ≡ false = grind (arith, nat_tests, other) in
    split ∙ ap (λ l. l ++ own p (entries_in ds)) (other_entry p d.vehicle d.ask.moment d.ask.message d.answer other) ∙ entries_are p ds
    ∙ ap (λ b. entries_of p (map call (if b then d ∷ deals_of p ds else deals_of p ds))) (sym test))

-- the calls that the letters and the responses of a client tell are those that were served
pub served_calls : (p : ℕ) (log : List Deal) (got : List Letter) (put : List Response) → asks (of p got) ≡ map (λ d. d.ask) (deals_of p log) → map (λ r. r.answer) put ≡ map (λ d. d.answer) (deals_of p log)
    → calls_in (of p got) put ≡ map call (deals_of p log)
served_calls p log got put asked answered = ap (λ l. pairs l put) asked ∙ pairs_deals (deals_of p log) put answered

-- a vehicle's entries are those of its client's calls
pub own_are : (p : ℕ) (journal : List Entry) (replied refused : List Deal) (got : List Letter) (put : List Response) → journal ≡ entries_in replied → Every (λ d. IsFull d.answer) refused
    → asks (of p got) ≡ map (λ d. d.ask) (deals_of p (replied ++ refused)) → map (λ r. r.answer) put ≡ map (λ d. d.answer) (deals_of p (replied ++ refused)) → own p journal ≡ entries_of p (calls_in (of p got) put)
own_are p journal replied refused got put is full asked answered =
    let a : List Call = map call (deals_of p replied) in
    let b : List Call = map call (deals_of p refused) in
    let none : entries_of p b ≡ [] = entries_none p b (Every_call IsFull (deals_of p refused) (Every_test (λ d. IsFull d.answer) (λ d. d.vehicle == p) refused full)) in
    let parts : map call (deals_of p (replied ++ refused)) ≡ a ++ b = ap (map call) (deals-append p replied refused) ∙ map-append call (deals_of p replied) (deals_of p refused) in
    ap (own p) is ∙ entries_are p replied ∙ sym (append-nil (entries_of p a)) ∙ ap (λ l. entries_of p a ++ l) (sym none) ∙ sym (entries_of-append p a b)
    ∙ ap (entries_of p) (sym (served_calls p (replied ++ refused) got put asked answered ∙ parts))
