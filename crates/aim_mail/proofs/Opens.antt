-- A mailbox that is new.
use Rattle.std.proofs.Common.{◌≡◌, ℕ, ◌+◌, ◌<◌, true≢false, List, [], ◌∷◌, ◌++◌, length, sym, refl, ap, ◌∙◌, subst, arith, inl, map, length-append, Option, Some, Result, Ok, Err, ◌↔◌, get_or}
use mathlib.Core.Option.{some, some-ne-none}
use lib.ListN.{get_elem?}
use Rattle.std.proofs.lemmas.List.{map-append, length-map, get_or_default}
use Rattle.atomic_table.proofs.Lists.{at_longer, at_last, at_index}
use Rattle.aim_messages.specs.declared.entries.Entry.{Entry}
use Rattle.aim_rules.specs.Legal.{IsLegal}
use Rattle.aim_book.specs.declared.book.OpenFault.TheVariants as fault
use Rattle.aim_book.specs.Sheets.{sheets_kept}
use Rattle.aim_book.specs.State.{State}
use Rattle.aim_mail.specs.declared.letter.Letter.{Letter}
use Rattle.aim_mail.specs.declared.letter.MailSetting.{MailSetting}
use Rattle.aim_mail.specs.declared.response.Response.{Response}
use Rattle.aim_mail.specs.Asks.{asks, pairs}
use Rattle.aim_mail.specs.Calls.{Channel, ClientModel, IsKept, IsNewClient, entries_of}
use Rattle.aim_mail.specs.Post.{of, IntakeModel, PortModel, hired, new_port}
use Rattle.aim_mail.specs.Slips.{InletModel, SlipModel, Lawful, kept_after}
use Rattle.aim_mail.specs.Mail.{Stands, Owes, HasSpans, IsNewSlip, IsOpen, IsStaffed, channel_of, client_of, mail_of, letters_of}
use Rattle.aim_mail.proofs.Views.{each_more}

owes_nothing : (p : ℕ) (on : Channel Letter) (spans : ℕ) (s : SlipModel) → sheets_kept p [] ≡ 0 → IsNewSlip p on spans s → Owes p on spans [] [] [] s
owes_nothing p on spans s none new = record {
  put = ap (map (λ r. r.answer)) new.0;
  lawful = subst (Lawful s.first) (sym new.0) tt;
  told = new.2;
  kept = ap kept_after new.0 ∙ sym none;
  ended = λ e. absurd (true≢false (sym e ∙ new.1));
}

pub stands_new : (book : State) (on : Channel Letter) (got : List Letter) (slips : List SlipModel) → book.journal ≡ [] → IsLegal book.layout book.vehicles book.journal → got ≡ [] → length slips ≡ book.vehicles
    → ((p : ℕ) → sheets_kept p [] ≡ 0) → ((p : ℕ) (s : SlipModel) → get_elem? slips p ≡ some s → IsNewSlip p on book.layout.grid.spans s) → Stands book on got slips
stands_new book on got slips journal legal none count kept each = record {
  replied = [];
  refused = [];
  replies = tt;
  refusals = tt;
  full = inl refl;
  asked = λ p. ap (λ l. asks (of p l)) none;
  count = count;
  each = λ p s at. subst (λ (y : List Entry × List Letter). Owes p on book.layout.grid.spans y.0 [] y.1 s) (λ i. (sym journal i, sym none i)) (owes_nothing p on book.layout.grid.spans s (kept p) (each p s at));
  entries = journal;
  known = tt;
  legal = legal;
  within = let n = ap length journal in omega (arith, n);
}

pub open_new : (sent : List Letter) (heard : List Response) → sent ≡ [] → heard ≡ [] → IsOpen sent heard
open_new sent heard a b = subst (λ (y : List Letter × List Response). IsOpen y.0 y.1) (λ i. (sym a i, sym b i)) record { each = refl; going = refl }

-- the client of a new port and a new inlet keeps no sheet
pub kept_new : (port : PortModel) (inlet : InletModel) → port.sent ≡ [] → inlet.heard ≡ [] → sheets_kept port.from [] ≡ 0 → IsKept (client_of port inlet)
kept_new port inlet a b none = ap kept_after b ∙ sym (ap (λ l. sheets_kept port.from (entries_of port.from (pairs (asks l) inlet.heard))) a ∙ none)

-- a slip more
pub slip_more : (on : Channel Letter) (spans n : ℕ) (slips : List SlipModel) (s : SlipModel) → length slips ≡ n → IsNewSlip n on spans s → ((p : ℕ) (z : SlipModel) → get_elem? slips p ≡ some z → IsNewSlip p on spans z)
    → (p : ℕ) (z : SlipModel) → get_elem? (slips ++ s ∷ []) p ≡ some z → IsNewSlip p on spans z
slip_more on spans n slips s count new old = each_more (λ p z. IsNewSlip p on spans z) slips s (subst (λ m. IsNewSlip m on spans s) (sym count) new) old

-- a new client
abbrev fresh_client : IntakeModel → SlipModel → ℕ → ClientModel
fresh_client intake slip n = record { asks_on = letters_of intake; hears_on = channel_of slip; setting = intake.setting; vehicle = n; calls = []; kept = 0 }

pub new_client : (port : PortModel) (inlet : InletModel) (intake : IntakeModel) (slip : SlipModel) (n : ℕ) → port ≡ new_port intake → inlet ≡ record { table = slip.table; key = slip.key; first = slip.first; heard = [] }
    → n ≡ intake.made → client_of port inlet ≡ fresh_client intake slip n
new_client port inlet intake slip n p q next = (λ i. client_of (p i) (q i)) ∙ ap (fresh_client intake slip) (sym next)

pub has_spans : (o : Option MailSetting) (terms : MailSetting) (spans : ℕ) → o ≡ Some terms → spans ≡ terms.layout.grid.spans → HasSpans o spans
has_spans o terms spans is same = (terms, is, same)

-- a slip more, with its client
client_more : (terms : MailSetting) (intake : IntakeModel) (slips : List SlipModel) (clients : List ClientModel) (s : SlipModel) (c : ClientModel) (n : ℕ) → length slips ≡ n → length clients ≡ n
    → intake.setting ≡ Some terms → c ≡ fresh_client intake s n → ((p : ℕ) (d : ClientModel) → get_elem? clients p ≡ some d → IsNewClient (mail_of terms intake slips) p d)
    → (p : ℕ) (d : ClientModel) → get_elem? (clients ++ c ∷ []) p ≡ some d → IsNewClient (mail_of terms intake (slips ++ s ∷ [])) p d
client_more terms intake slips clients s c n slips_n clients_n setting is old =
    let longer : map channel_of (slips ++ s ∷ []) ≡ map channel_of slips ++ channel_of s ∷ [] = map-append channel_of slips (s ∷ []) in
    let number : c.vehicle ≡ n = ap (λ z. z.vehicle) is in
    each_more (IsNewClient (mail_of terms intake (slips ++ s ∷ []))) clients c
    record {
      own = record {
        asks_on = ap (λ z. z.asks_on) is;
        hears_on = ap (λ l. get_elem? l c.vehicle) longer ∙ at_last (map channel_of slips) (channel_of s) c.vehicle (length-map slips channel_of ∙ slips_n ∙ sym number) ∙ ap some (sym (ap (λ z. z.hears_on) is));
        setting = ap (λ z. z.setting) is ∙ setting;
      };
      number = number ∙ sym clients_n;
      calls = ap (λ z. z.calls) is;
      kept = ap (λ z. z.kept) is;
    }
    (λ p d at. let o = old p d at in record {
      own = record {
        asks_on = o.own.asks_on;
        hears_on = ap (λ l. get_elem? l d.vehicle) longer ∙ at_longer (map channel_of slips) (channel_of s ∷ []) d.vehicle d.hears_on o.own.hears_on;
        setting = o.own.setting;
      };
      number = o.number;
      calls = o.calls;
      kept = o.kept;
    })

module _ {A : Type 0} where
  nowhere : (xs : List A) (p : ℕ) (x : A) → xs ≡ [] → get_elem? xs p ≡ some x → ⊥
  nowhere xs p x none at = some-ne-none x (sym at ∙ ap (λ l. get_elem? l p) none)

  pub length-snoc : (new old : List A) (x : A) (n : ℕ) → new ≡ old ++ x ∷ [] → length old ≡ n → length new ≡ n + 1
  length-snoc new old x n is len = let e = ap length is in omega (arith, e, length-append old (x ∷ []), len)

-- what opening the book says of a fault stays of the mailbox that was opened with it, and of a fault that is another
ok_err : {A E : Type 0} (a : A) (e : E) → ◌≡◌ {A = Result A E} (Ok a) (Err e) → ⊥
ok_err a e i = cc

err_is : (A : Type 0) {E : Type 0} (e f : E) → ◌≡◌ {A = Result A E} (Err e) (Err f) → e ≡ f
err_is A e f i = cc

module _ {A B E : Type 0} where
  pub ok_iff : (a : A) (b : B) (e : E) (P : Type 0) → ◌≡◌ {A = Result A E} (Ok a) (Err e) ↔ P → ◌≡◌ {A = Result B E} (Ok b) (Err e) ↔ P
  ok_iff a b e P h = (λ i. absurd (ok_err b e i), λ p. absurd (ok_err a e (h.1 p)))

  pub err_iff : (a : A) (e f : E) (P : Type 0) → (e ≡ f → ⊥) → ◌≡◌ {A = Result A E} (Ok a) (Err f) ↔ P → ◌≡◌ {A = Result B E} (Err e) (Err f) ↔ P
  err_iff a e f P other h = (λ i. absurd (other (err_is B e f i)), λ p. absurd (ok_err a f (h.1 p)))

pub not_vehicles : fault.NoMemory ≡ fault.Vehicles → ⊥
not_vehicles i = cc

pub not_room : fault.NoMemory ≡ fault.Room → ⊥
not_room i = cc

-- the ends of a mailbox that has no client
pub staffed_none : (terms : MailSetting) (intake : IntakeModel) (slips : List SlipModel) (clients : List ClientModel) → intake.setting ≡ Some terms → intake.got ≡ [] → intake.made ≡ 0 → intake.known ≡ [] → slips ≡ [] → clients ≡ []
    → IsStaffed terms 0 intake slips clients
staffed_none terms intake slips clients setting got made known a b = record {
  setting = setting;
  got = got;
  known = known;
  made = made;
  slip_count = ap length a;
  client_count = ap length b;
  blank = λ p s at. absurd (nowhere slips p s a at);
  each = λ p c at. absurd (nowhere clients p c b at);
}

-- one client more
pub staffed_more : (terms : MailSetting) (n spans : ℕ) (intake intake' : IntakeModel) (slips slips' : List SlipModel) (clients clients' : List ClientModel) (s : SlipModel) (c : ClientModel)
    → IsStaffed terms n intake slips clients → spans ≡ terms.layout.grid.spans → IsNewSlip n (letters_of intake) spans s → c ≡ fresh_client intake s n → intake' ≡ hired intake → slips' ≡ slips ++ s ∷ [] → clients' ≡ clients ++ c ∷ []
    → IsStaffed terms (n + 1) intake' slips' clients'
staffed_more terms n spans intake intake' slips slips' clients clients' s c old same new is h a b = record {
  setting = ap (λ z. z.setting) h ∙ old.setting;
  got = ap (λ z. z.got) h ∙ old.got;
  known = ap (λ z. z.known) h ∙ old.known;
  made = ap (λ z. z.made) h ∙ ap (λ k. k + 1) old.made;
  slip_count = length-snoc _ _ _ _ a old.slip_count;
  client_count = length-snoc _ _ _ _ b old.client_count;
  blank = subst (λ (y : IntakeModel × List SlipModel). (p : ℕ) (z : SlipModel) → get_elem? y.1 p ≡ some z → IsNewSlip p (letters_of y.0) terms.layout.grid.spans z) (λ i. (sym h i, sym a i))
      (slip_more (letters_of intake) terms.layout.grid.spans n slips s old.slip_count (subst (λ m. IsNewSlip n (letters_of intake) m s) same new) old.blank);
  each = subst (λ (y : IntakeModel × List SlipModel × List ClientModel). (p : ℕ) (d : ClientModel) → get_elem? y.2 p ≡ some d → IsNewClient (mail_of terms y.0 y.1) p d) (λ i. (sym h i, sym a i, sym b i))
      (client_more terms intake slips clients s c n old.slip_count old.client_count old.setting is old.each);
}

-- what is known of each by get_elem? is known of each by its place
pub by_place : (P : ℕ → ClientModel → Type 0) (cs : List ClientModel) (n : ℕ) → length cs ≡ n → ((p : ℕ) (c : ClientModel) → get_elem? cs p ≡ some c → P p c) → (k : ℕ) (d : ClientModel) → k < n → P k (get_or cs k d)
by_place P cs n count each k d less = each k (get_or cs k d) (at_index cs k (get_or cs k d) (omega (arith, count, less)) (get_or_default cs k d (get_or cs k d) (omega (arith, count, less))))
