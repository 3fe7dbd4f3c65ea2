-- The end of a mailbox: what the journal has of each client.
use Rattle.std.proofs.Common.{◌≡◌, inl, inr, ⊎_elim, ℕ, zero, suc, ◌<◌, ◌≤◌, Bool, true, false, true≢false, List, [], ◌∷◌, ◌++◌, map, length, sym, refl, ap, ◌∙◌, subst, append_assoc, append-nil, arith, set, get_or}
use Rattle.std.specs.Prelude.{◌||◌, ◌==◌, All}
use Rattle.std.proofs.lemmas.List.{map-append, length-map}
use Rattle.std.proofs.lemmas.List.Elements.{filter-append}
use mathlib.Core.Option.{some, some-injective, some-ne-none}
use lib.ListN.{get_elem?}
use Rattle.atomic_table.proofs.Lists.{at_index, set_again}
use Rattle.aim_messages.specs.declared.entries.Entry.{Entry}
use Rattle.aim_messages.specs.declared.entries.TheConstants.{MOST_VEHICLES, OPERATOR}
use Rattle.aim_book.specs.Sheets.{own, sheets_kept}
use Rattle.aim_book.specs.State.{State}
use Rattle.aim_mail.specs.declared.letter.Letter.{Letter}
use Rattle.aim_mail.specs.declared.response.Response.{Response}
use Rattle.aim_mail.specs.Calls.{Channel, ClientModel, ServerModel, IsReply, IsFull, entry_of, entries_of, IsOfMail, IsSettled}
use Rattle.aim_mail.specs.Post.{Every, of}
use Rattle.aim_mail.specs.Slips.{SlipModel, kept_after}
use Rattle.aim_mail.specs.Asks.{asks, calls_in, has_last, is_last}
use Rattle.aim_mail.specs.Mail.{Deal, deals_of, entries_in, Stands, HasEnded, channel_of, Gone, Found}
use Rattle.aim_mail.proofs.Posts.{Every-map, of-append}
use Rattle.aim_mail.proofs.CallLemmas.{no_more}
use Rattle.aim_mail.proofs.OwnEntries.{Every_call, Every_test, call, deals-append, head_or, other_entry, own_are, served_calls}

abbrev tail_of : List Letter → List Letter
tail_of [] = []
tail_of (x ∷ xs) = xs

or_left : (a b : Bool) → (a || b) ≡ false → a ≡ false
or_left true b e = e
or_left false b e = refl

or_right : (a b : Bool) → (a || b) ≡ false → b ≡ false
or_right true b e = absurd (true≢false e)
or_right false b e = e

or_after : (a b : Bool) → a ≡ false → (a || b) ≡ true → b ≡ true
or_after true b no_a e = absurd (true≢false no_a)
or_after false b no_a e = e

-- what was received of a client is all that it sent, once its last word was
whole : (xs ys cs : List Letter) (l : Letter) → xs ++ ys ≡ cs ++ l ∷ [] → has_last xs ≡ true → has_last cs ≡ false → ys ≡ []
whole [] ys cs l e some_last none = absurd (true≢false (sym some_last))
whole (x ∷ xs) ys [] l e some_last none = nothing xs ys (ap tail_of e)
  where
    nothing : (xs ys : List Letter) → xs ++ ys ≡ [] → ys ≡ []
    nothing [] ys e = e
    nothing (x ∷ xs) ys e = let n = ap length e in absurd (omega (arith, n))
whole (x ∷ xs) ys (c ∷ cs) l e some_last none =
    let same : x ≡ c = ap (head_or c) e in
    whole xs ys cs l (ap tail_of e) (or_after (is_last x.word) (has_last xs) (ap (λ z. is_last z.word) same ∙ or_left (is_last c.word) (has_last cs) none) some_last) (or_right (is_last c.word) (has_last cs) none)

-- no entry is another caller's
none_own : (p : ℕ) (ds : List Deal) → Every (λ d. d.vehicle < p) ds → own p (entries_in ds) ≡ []
none_own p [] h = refl
none_own p (d ∷ ds) h =
    let first : List Entry = entry_of d.vehicle d.ask.moment d.ask.message d.answer in
    let less = h.0 in
    filter-append (λ e. e.caller == p) first (entries_in ds)
    ∙ ap (λ l. l ++ own p (entries_in ds)) (other_entry p d.vehicle d.ask.moment d.ask.message d.answer (λ is. omega (arith, is, less))) ∙ none_own p ds h.1

pub no_operator : (n : ℕ) (ds : List Deal) → n ≤ MOST_VEHICLES → Every (λ d. d.vehicle < n) ds → own OPERATOR (entries_in ds) ≡ []
no_operator n ds most h = none_own OPERATOR ds (Every-map (λ d. d.vehicle < n) (λ d. d.vehicle < OPERATOR) ds (λ d less. omega (arith, less, most)) h)

module _ {A : Type 0} where
  pub Every-from_All : (P : A → Type 0) (xs : List A) → All P xs → Every P xs
  Every-from_All P [] h = tt
  Every-from_All P (x ∷ xs) h = (h 0 x (omega arith), Every-from_All P xs (λ k d less. h (suc k) d (omega (arith, less))))

  pub All-from_Every : (P : A → Type 0) (xs : List A) → Every P xs → All P xs
  All-from_Every P [] h k d less = absurd (omega (arith, less))
  All-from_Every P (x ∷ xs) h zero d less = h.0
  All-from_Every P (x ∷ xs) h (suc k) d less = All-from_Every P xs h.1 k d (omega (arith, less))

-- one client that was taken in
settled_one : (book : State) (on : Channel Letter) (got items : List Letter) (slips : List SlipModel) (g : Gone) → ((v : ℕ) (h : List Entry) → sheets_kept v (own v h) ≡ sheets_kept v h)
    → Stands book on got slips → ((p : ℕ) → p < length slips → HasEnded slips p) → g.client.vehicle < length slips
    → Found slips g → of g.client.vehicle (got ++ items) ≡ g.sent → IsSettled book.room book.journal g.client
settled_one book on got items slips g law h ended less found sent =
    let p : ℕ = g.client.vehicle in
    let ends = found.ends in
    let owes = h.each p found.slip found.at in
    let nothing : of p items ≡ [] = whole (of p got) (of p items) ends.calls ends.last (sym (of-append p got items) ∙ sent ∙ ends.is) (owes.ended (ended p less found.slip found.at)) ends.going in
    let all : g.sent ≡ of p got = sym sent ∙ of-append p got items ∙ ap (λ l. of p got ++ l) nothing ∙ append-nil (of p got) in
    let ds : List Deal = deals_of p (h.replied ++ h.refused) in
    let asked : asks g.sent ≡ map (λ d. d.ask) ds = ap asks all ∙ h.asked p in
    let n1 = ap length asked in
    let n2 = length-map ds (λ (d : Deal). d.ask) in
    let n3 : length (map (λ (r : Response). r.answer) found.slip.put) ≡ length (map (λ (d : Deal). d.answer) ds) = ap length owes.put in
    let n4 = length-map ds (λ (d : Deal). d.answer) in
    let n5 = length-map found.slip.put (λ (r : Response). r.answer) in
    let n6 : length found.slip.put ≡ length (g.heard ++ found.rest) = ap length found.put in
    let rest : found.rest ≡ [] = no_more g.heard found.rest (omega (arith, n1, n2, n3, n4, n5, n6, ends.each)) in
    let put : found.slip.put ≡ g.heard = found.put ∙ ap (λ l. g.heard ++ l) rest ∙ append-nil g.heard in
    let same : g.client.calls ≡ calls_in (of p got) found.slip.put = found.calls ∙ (λ i. calls_in (all i) (sym put i)) in
    let parts : map call ds ≡ map call (deals_of p h.replied) ++ map call (deals_of p h.refused) = ap (map call) (deals-append p h.replied h.refused) ∙ map-append call (deals_of p h.replied) (deals_of p h.refused) in
    record {
      replied = map call (deals_of p h.replied);
      refused = map call (deals_of p h.refused);
      calls = same ∙ served_calls p (h.replied ++ h.refused) got found.slip.put (h.asked p) owes.put ∙ parts;
      replies = All-from_Every (λ z. IsReply z.answer) (map call (deals_of p h.replied)) (Every_call IsReply _ (Every_test _ _ h.replied h.replies));
      refusals = All-from_Every (λ z. IsFull z.answer) (map call (deals_of p h.refused)) (Every_call IsFull _ (Every_test _ _ h.refused h.refusals));
      entries = own_are p book.journal h.replied h.refused got found.slip.put h.entries h.refusals (h.asked p) owes.put ∙ ap (entries_of p) (sym same);
      full = ⊎_elim (λ z. inl (ap (λ l. map call (deals_of p l)) z)) (λ z. inr z) h.full;
      kept = found.kept ∙ ap kept_after (sym put) ∙ owes.kept ∙ sym (law p book.journal);
    }

pub below : (slips : List SlipModel) (p : ℕ) (s : SlipModel) → get_elem? slips p ≡ some s → p < length slips
below [] p s e = absurd (some-ne-none s (sym e))
below (x ∷ xs) zero s e = omega arith
below (x ∷ xs) (suc p) s e = let b = below xs p s e in omega (arith, b)

pub settled_all : (book : State) (on : Channel Letter) (got items : List Letter) (slips : List SlipModel) (gs : List Gone) → ((v : ℕ) (h : List Entry) → sheets_kept v (own v h) ≡ sheets_kept v h)
    → Stands book on got slips → ((p : ℕ) → p < length slips → HasEnded slips p)
    → Every (Found slips) gs → Every (λ (k : ℕ × List Letter). of k.0 (got ++ items) ≡ k.1) (map (λ g. (g.client.vehicle, g.sent)) gs) → Every (IsSettled book.room book.journal) (map (λ g. g.client) gs)
settled_all book on got items slips [] law h ended found sent = tt
settled_all book on got items slips (g ∷ gs) law h ended found sent =
    let first : Found slips g = found.0 in
    (settled_one book on got items slips g law h ended (below slips g.client.vehicle first.slip first.at) first sent.0, settled_all book on got items slips gs law h ended found.1 sent.1)

-- the slip of a client of the mailbox
pub slip_of : (slips : List SlipModel) (p : ℕ) (c : Channel Response) → get_elem? (map channel_of slips) p ≡ some c → (s : SlipModel) × (get_elem? slips p ≡ some s) × (channel_of s ≡ c)
slip_of [] p c e = absurd (some-ne-none c (sym e))
slip_of (x ∷ xs) zero c e = (x, refl, some-injective (channel_of x) c e)
slip_of (x ∷ xs) (suc p) c e = slip_of xs p c e

module _ {A : Type 0} where
  pub popped : (all old new gone : List A) (x : A) → all ≡ old ++ gone → old ≡ new ++ x ∷ [] → all ≡ new ++ x ∷ gone
  popped all old new gone x e f = e ∙ ap (λ l. l ++ gone) f ∙ append_assoc new (x ∷ []) gone

  pub middle : (P : A → Type 0) (xs ys : List A) (x : A) → Every P (xs ++ x ∷ ys) → P x
  middle P [] ys x h = h.0
  middle P (y ∷ xs) ys x h = middle P xs ys x h.1

pub own_of : (m : ServerModel) (all old new gone : List ClientModel) (x e : ClientModel) → All (IsOfMail m) all → all ≡ old ++ gone → old ≡ new ++ x ∷ [] → e ≡ x → IsOfMail m e
own_of m all old new gone x e h a b is = subst (IsOfMail m) (sym is) (middle (IsOfMail m) new gone x (subst (Every (IsOfMail m)) (popped all old new gone x a b) (Every-from_All (IsOfMail m) all h)))

pub here : (slips : List SlipModel) (p q : ℕ) (now s : SlipModel) → get_elem? slips p ≡ some s → q ≡ p → now ≡ get_or slips q now → (get_elem? slips p ≡ some now) × (now ≡ s)
here slips p q now s at is found =
    let e : get_elem? slips p ≡ some now = at_index slips p now (below slips p s at) (found ∙ ap (λ k. get_or slips k now) is) in
    (e, some-injective now s (sym e ∙ at))

pub put_back : (slips : List SlipModel) (p q : ℕ) (now new : SlipModel) → get_elem? slips p ≡ some now → q ≡ p → new ≡ now → set slips q new ≡ slips
put_back slips p q now new at is same = ap (set slips q) same ∙ set_again slips q now (ap (get_elem? slips) is ∙ at)

pub nothing_left : (xs : List ClientModel) → length xs ≡ 0 → xs ≡ []
nothing_left [] h = refl
nothing_left (x ∷ xs) h = absurd (omega (arith, h))
