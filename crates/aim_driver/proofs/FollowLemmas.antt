-- What a driver follows fits the history in which its calls stand.
use Rattle.std.proofs.Common.{◌≡◌, inl, inr, ℕ, zero, suc, ◌+◌, ◌-◌, ◌≤◌, Bool, true, false, ◌==◌, List, [], ◌∷◌, ◌++◌, length, drop, slice_get, Option, Some, None, option_map, if◌then◌else◌, refl, sym, ◌∙◌, ap, subst, arith, length-append, add-one}
use Rattle.std.specs.List.{All, filter}
use Rattle.std.proofs.lemmas.Bool.Decides.{nat_tests}
use Rattle.std.proofs.lemmas.Option.{slice_get_within, get_or_from_slice_get, slice_get-map}
use Rattle.std.proofs.lemmas.List.Elements.{All-nil, All-get_or, All-push, All-set, All-weaker}
use Rattle.aim_messages.specs.declared.messages.Message.{Message}
use Rattle.aim_messages.specs.declared.replies.Reply.{Reply}
use Rattle.aim_messages.specs.declared.entries.Act.{Act}
use Rattle.aim_messages.specs.declared.entries.Act.TheVariants as act
use Rattle.aim_messages.specs.declared.entries.Entry.{Entry}
use Rattle.aim_driver.specs.declared.plans.DrivePlan.{DrivePlan}
use Rattle.aim_driver.specs.declared.logs.LogItem.{LogItem}
use Rattle.aim_driver.specs.declared.logs.LogItem.TheVariants as item
use Rattle.aim_driver.specs.declared.links.Fate.{Fate}
use Rattle.aim_driver.specs.declared.links.Sending.{Sending}
use Rattle.aim_driver.specs.Models.{acts, enters, with_entered}
use Rattle.aim_driver.specs.Links.{LinkModel, under_way, next_place, delivered, came_again, after_coming, after_delivery, fate_at}
use Rattle.aim_driver.specs.Turns.{State, heard, hears, hears_all, entering, sending, begun}
use Rattle.aim_driver.specs.Follows.{Call, Course, running, fresh, call, called, calls_with, one_call, some_calls, calling, turn, turns, follows_from}
use Rattle.aim_driver.specs.Fits.{WasSent, CarriesSent, HasReply, EachGot, Fits, entries_of, call_at, call_of, reply_of, replies_of, AreCallsOf}
use Rattle.aim_driver.proofs.SmallFacts.{some_is, none_some, never}
use Rattle.aim_driver.proofs.LinkLemmas.{delivered_is, due_later}

-- lists

all_at : {X : Type 0} (P : X → Type 0) (xs : List X) (k : ℕ) (x : X) → All P xs → slice_get xs k ≡ Some x → P x
all_at P xs k x all at = subst P (get_or_from_slice_get xs k x x at) (All-get_or P xs k x (slice_get_within xs k x at) all)

drop_parts : {X : Type 0} (xs : List X) (n : ℕ) (x : X) (rest : List X) → drop n xs ≡ x ∷ rest → (slice_get xs n ≡ Some x) × (drop (suc n) xs ≡ rest)
drop_parts [] zero x rest e = absurd (cc)
drop_parts [] (suc n) x rest e = absurd (cc)
drop_parts (y ∷ xs) zero x rest e = (cc, cc)
drop_parts (y ∷ xs) (suc n) x rest e = drop_parts xs n x rest e

get-left : {X : Type 0} (xs ys : List X) (k : ℕ) (x : X) → slice_get xs k ≡ Some x → slice_get (xs ++ ys) k ≡ Some x
get-left [] ys k x e = none_some x e
get-left (y ∷ xs) ys zero x e = e
get-left (y ∷ xs) ys (suc k) x e = get-left xs ys k x e

get-seam : {X : Type 0} (xs : List X) (y : X) → slice_get (xs ++ y ∷ []) (length xs) ≡ Some y
get-seam [] y = refl
get-seam (x ∷ xs) y = get-seam xs y

in_filter : {X : Type 0} (p : X → Bool) (xs : List X) (k : ℕ) (x : X) → slice_get xs k ≡ Some x → p x ≡ true → (j : ℕ) × (slice_get (filter p xs) j ≡ Some x)
in_filter p [] k x at passes = none_some x at
in_filter {X} p (y ∷ xs) zero x at passes =
    let is : y ≡ x = some_is y x at in
    let passes' : p y ≡ true = ap p is ∙ passes in
    (0, rw passes' (ap (λ z. Some z) is))
in_filter {X} p (y ∷ xs) (suc k) x at passes = one_more (p y) (in_filter p xs k x at passes)
  where
    one_more : (b : Bool) → (j : ℕ) × (slice_get (filter p xs) j ≡ Some x) → (j : ℕ) × (slice_get (if b then y ∷ filter p xs else filter p xs) j ≡ Some x)
    one_more true h = (suc h.0, h.1)
    one_more false h = h

from_filter : {X : Type 0} (p : X → Bool) (xs : List X) (j : ℕ) (x : X) → slice_get (filter p xs) j ≡ Some x → (k : ℕ) × (slice_get xs k ≡ Some x) × (p x ≡ true)
from_filter p [] j x at = none_some x at
from_filter {X} p (y ∷ xs) j x at = go (p y) refl j at (λ i h. from_filter p xs i x h)
  where
    go : (b : Bool) → p y ≡ b → (j : ℕ) → slice_get (if b then y ∷ filter p xs else filter p xs) j ≡ Some x
        → ((i : ℕ) → slice_get (filter p xs) i ≡ Some x → (k : ℕ) × (slice_get xs k ≡ Some x) × (p x ≡ true)) → (k : ℕ) × (slice_get (y ∷ xs) k ≡ Some x) × (p x ≡ true)
    go true e zero at before = (0, at, ap p (sym (some_is y x at)) ∙ e)
    go true e (suc j) at before = let h = before j at in (suc h.0, h.1, h.2)
    go false e j at before = let h = before j at in (suc h.0, h.1, h.2)

-- logs that grow

pub WasSent-left : (m : Message) (t : ℕ) (xs ys : List LogItem) → WasSent m t xs → WasSent m t (xs ++ ys)
WasSent-left m t [] ys w = absurd w
WasSent-left m t (item.Sent step n ∷ xs) ys (inl w) = inl w
WasSent-left m t (item.Sent step n ∷ xs) ys (inr w) = inr (WasSent-left m t xs ys w)
WasSent-left m t (item.Got step seq r ∷ xs) ys w = WasSent-left m t xs ys w
WasSent-left m t (item.Entered step id ∷ xs) ys w = WasSent-left m t xs ys w

pub WasSent-last : (m : Message) (t : ℕ) (xs : List LogItem) → WasSent m t (xs ++ item.Sent t m ∷ [])
WasSent-last m t [] = inl (refl, omega arith)
WasSent-last m t (item.Sent step n ∷ xs) = inr (WasSent-last m t xs)
WasSent-last m t (item.Got step seq r ∷ xs) = WasSent-last m t xs
WasSent-last m t (item.Entered step id ∷ xs) = WasSent-last m t xs

pub WasSent-later : (m : Message) (t t' : ℕ) (xs : List LogItem) → t ≤ t' → WasSent m t xs → WasSent m t' xs
WasSent-later m t t' [] le w = absurd w
WasSent-later m t t' (item.Sent step n ∷ xs) le (inl w) = inl (w.0, let l = w.1 in omega arith)
WasSent-later m t t' (item.Sent step n ∷ xs) le (inr w) = inr (WasSent-later m t t' xs le w)
WasSent-later m t t' (item.Got step seq r ∷ xs) le w = WasSent-later m t t' xs le w
WasSent-later m t t' (item.Entered step id ∷ xs) le w = WasSent-later m t t' xs le w

pub EachGot-append : (P : ℕ → Reply → Type 0) (xs ys : List LogItem) → EachGot P xs → EachGot P ys → EachGot P (xs ++ ys)
EachGot-append P [] ys a b = b
EachGot-append P (item.Sent step n ∷ xs) ys a b = EachGot-append P xs ys a b
EachGot-append P (item.Got step seq r ∷ xs) ys a b = (a.0, EachGot-append P xs ys a.1 b)
EachGot-append P (item.Entered step id ∷ xs) ys a b = EachGot-append P xs ys a b

pub EachGot-weaken : (P Q : ℕ → Reply → Type 0) (xs : List LogItem) → ((n : ℕ) (r : Reply) → P n r → Q n r) → EachGot P xs → EachGot Q xs
EachGot-weaken P Q [] f a = tt
EachGot-weaken P Q (item.Sent step n ∷ xs) f a = EachGot-weaken P Q xs f a
EachGot-weaken P Q (item.Got step seq r ∷ xs) f a = (f seq r a.0, EachGot-weaken P Q xs f a.1)
EachGot-weaken P Q (item.Entered step id ∷ xs) f a = EachGot-weaken P Q xs f a

-- a course: what stands on its links and in its log comes from its calls and their replies

-- a call with that number has that reply
pub record Replied (replies : List Reply) (calls : List Call) (seq : ℕ) (r : Reply) : Type 0 where
  pub place : ℕ
  pub call : Call
  pub made : slice_get calls place ≡ Some call
  pub number : call.message.seq ≡ seq
  pub told : slice_get replies place ≡ Some r

Replied-more : (replies : List Reply) (calls : List Call) (x : Call) (seq : ℕ) (r : Reply) → Replied replies calls seq r → Replied replies (calls ++ x ∷ []) seq r
Replied-more replies calls x seq r p = record { place = p.place; call = p.call; made = get-left calls (x ∷ []) p.place p.call p.made; number = p.number; told = p.told }

abbrev pub SentBy : List LogItem → Sending Message → Type 0
SentBy log s = WasSent s.item s.step log

abbrev pub CallBy : List LogItem → Call → Type 0
CallBy log x = WasSent x.message x.moment log

abbrev pub PairOf : List Reply → List Call → Sending (ℕ × Reply) → Type 0
PairOf replies calls s = Replied replies calls s.item.0 s.item.1

-- of a log, its links and the calls: all of it goes back to the log, or to a call and its reply
pub record IsSound (replies : List Reply) (calls : List Call) (s : State) : Type 0 where
  pub on_up : All (SentBy s.log) s.up.sent
  pub made : All (CallBy s.log) calls
  pub on_down : All (PairOf replies calls) s.down.sent
  pub told : EachGot (Replied replies calls) s.log

pub record IsSoundCourse (replies : List Reply) (c : Course) : Type 0 where
  pub sound : IsSound replies c.calls c.state
  pub rest : c.goes_on ≡ true → c.left ≡ drop (length c.calls) replies

-- what comes was sent, and what is left stays as it was sent
all_after : {X : Type 0} (P : Sending X → Type 0) → ((s : Sending X) (n : ℕ) → P s → P (record s { came = n })) → (l : LinkModel X) (step : ℕ) → All P l.sent → All P (after_delivery l step).sent
all_after {X} P same l step all = go (next_place l step)
  where
    again : (k : ℕ) (o : Option (Sending X)) → slice_get l.sent k ≡ o → All P (came_again l.sent k o)
    again k None e = all
    again k (Some s) e = All-set P l.sent k (record s { came = s.came + 1 }) (same s (s.came + 1) (all_at P l.sent k s all e)) all

    go : (o : Option ℕ) → All P (after_coming l.sent o)
    go None = all
    go (Some k) = again k (slice_get l.sent k) refl

-- what comes was sent at the step or before it
came_from : {X : Type 0} (P : Sending X → Type 0) (l : LinkModel X) (step : ℕ) (x : X) → All P l.sent → delivered l step ≡ Some x → (s : Sending X) × P s × (s.item ≡ x) × (s.step ≤ step)
came_from P l step x all e =
    let d = delivered_is l step x e in
    let n = d.2 in
    let soon : n.sending.step + l.lag ≤ n.due = due_later (n.sending.step + l.lag) n.sending.fate n.sending.came n.due n.comes in
    let le = n.in_time in
    (n.sending, all_at P l.sent d.0 n.sending all n.stands, d.3, omega arith)

-- the log grows
grown_log : (replies : List Reply) (calls : List Call) (s : State) (x : LogItem) → EachGot (Replied replies calls) (x ∷ []) → IsSound replies calls s → IsSound replies calls (record s { log = s.log ++ x ∷ [] })
grown_log replies calls s x new h = record {
  on_up = All-weaker (SentBy s.log) (SentBy (s.log ++ x ∷ [])) (λ y w. WasSent-left y.item y.step s.log (x ∷ []) w) s.up.sent h.on_up;
  made = All-weaker (CallBy s.log) (CallBy (s.log ++ x ∷ [])) (λ y w. WasSent-left y.message y.moment s.log (x ∷ []) w) calls h.made;
  on_down = h.on_down;
  told = EachGot-append (Replied replies calls) s.log (x ∷ []) h.told new;
}

-- it hears, enters and acts

heard_sound : (replies : List Reply) (calls : List Call) (step : ℕ) (s : State) (o : Option (ℕ × Reply)) → delivered s.down step ≡ o → IsSound replies calls s → IsSound replies calls (heard step s o)
heard_sound replies calls step s None at h = h
heard_sound replies calls step s (Some (seq, r)) at h =
    let from = came_from (PairOf replies calls) s.down step (seq, r) h.on_down at in
    let its : Replied replies calls seq r = (let P : (ℕ × Reply) → Type 0 = λ p. Replied replies calls p.0 p.1 in subst P from.2 from.1) in
    let g = grown_log replies calls s (item.Got step seq r) (its, tt) h in
    record { on_up = g.on_up; made = g.made; on_down = all_after (PairOf replies calls) (λ y n p. p) s.down step h.on_down; told = g.told }

hears_sound : (replies : List Reply) (calls : List Call) (step n : ℕ) (s : State) → IsSound replies calls s → IsSound replies calls (hears step n s)
hears_sound replies calls step zero s h = h
hears_sound replies calls step (suc n) s h =
    let d = hears step n s in heard_sound replies calls step d (delivered d.down step) refl (hears_sound replies calls step n s h)

entered_sound : (replies : List Reply) (calls : List Call) (step : ℕ) (s : State) (o : Option ℕ) → IsSound replies calls s → IsSound replies calls (record s { log = with_entered s.log step o })
entered_sound replies calls step s None h = h
entered_sound replies calls step s (Some id) h = grown_log replies calls s (item.Entered step id) tt h

sent_sound : (replies : List Reply) (calls : List Call) (step : ℕ) (s : State) (o : Option Message) → IsSound replies calls s → IsSound replies calls (sending step s o)
sent_sound replies calls step s None h = h
sent_sound replies calls step s (Some m) h =
    let g = grown_log replies calls s (item.Sent step m) tt h in
    let new : Sending Message = record { step = step; item = m; fate = fate_at s.up.fates (length s.up.sent); came = 0 } in
    record { on_up = All-push (SentBy (s.log ++ item.Sent step m ∷ [])) s.up.sent new g.on_up (WasSent-last m step s.log); made = g.made; on_down = g.on_down; told = g.told }

begun_sound : (replies : List Reply) (calls : List Call) (plan : DrivePlan) (step : ℕ) (s : State) → IsSound replies calls s → IsSound replies calls (begun plan step s)
begun_sound replies calls plan step s h =
    let all : State = hears_all step s in
    let in' : State = entering plan step all in
    sent_sound replies calls step in' (acts plan in'.log step) (entered_sound replies calls step all (enters plan all.log step) (hears_sound replies calls step (under_way s.down) s h))

-- it makes its calls

called_sound : (replies : List Reply) (step : ℕ) (c : Course) (m : Message) (rs : List Reply) → delivered c.state.up step ≡ Some m → c.goes_on ≡ true → c.left ≡ rs → IsSoundCourse replies c → IsSoundCourse replies (called step c m rs)
called_sound replies step c m [] at on left h =
    let from = came_from (SentBy c.state.log) c.state.up step m h.sound.on_up at in
    let its : WasSent m step c.state.log = WasSent-later m from.0.step step c.state.log from.3 (let P : Message → Type 0 = λ n. WasSent n from.0.step c.state.log in subst P from.2 from.1) in
    let x : Call = call step m in
    record {
      sound = record {
        on_up = all_after (SentBy c.state.log) (λ y n p. p) c.state.up step h.sound.on_up;
        made = All-push (CallBy c.state.log) c.calls x h.sound.made its;
        on_down = All-weaker (PairOf replies c.calls) (PairOf replies (c.calls ++ x ∷ [])) (λ y p. Replied-more replies c.calls x y.item.0 y.item.1 p) c.state.down.sent h.sound.on_down;
        told = EachGot-weaken (Replied replies c.calls) (Replied replies (c.calls ++ x ∷ [])) c.state.log (λ n r p. Replied-more replies c.calls x n r p) h.sound.told;
      };
      rest = λ on. never (sym on);
    }
called_sound replies step c m (r ∷ rs) at on left h =
    let from = came_from (SentBy c.state.log) c.state.up step m h.sound.on_up at in
    let its : WasSent m step c.state.log = WasSent-later m from.0.step step c.state.log from.3 (let P : Message → Type 0 = λ n. WasSent n from.0.step c.state.log in subst P from.2 from.1) in
    let x : Call = call step m in
    let next = drop_parts replies (length c.calls) r rs (sym (h.rest on) ∙ left) in
    let count : length (c.calls ++ x ∷ []) ≡ suc (length c.calls) = length-append c.calls (x ∷ []) ∙ add-one (length c.calls) in
    record {
      sound = record {
        on_up = all_after (SentBy c.state.log) (λ y n p. p) c.state.up step h.sound.on_up;
        made = All-push (CallBy c.state.log) c.calls x h.sound.made its;
        on_down = All-push (PairOf replies (c.calls ++ x ∷ [])) c.state.down.sent _
            (All-weaker (PairOf replies c.calls) (PairOf replies (c.calls ++ x ∷ [])) (λ y p. Replied-more replies c.calls x y.item.0 y.item.1 p) c.state.down.sent h.sound.on_down)
            (record { place = length c.calls; call = x; made = get-seam c.calls x; number = refl; told = next.0 });
        told = EachGot-weaken (Replied replies c.calls) (Replied replies (c.calls ++ x ∷ [])) c.state.log (λ n q p. Replied-more replies c.calls x n q p) h.sound.told;
      };
      rest = λ on. sym next.1 ∙ ap (λ n. drop n replies) (sym count);
    }

one_sound : (replies : List Reply) (step : ℕ) (c : Course) → IsSoundCourse replies c → IsSoundCourse replies (one_call step c)
one_sound replies step c h = go c.goes_on refl
  where
    comes : (o : Option Message) → delivered c.state.up step ≡ o → c.goes_on ≡ true → IsSoundCourse replies (calls_with step c o)
    comes None at on = h
    comes (Some m) at on = called_sound replies step c m c.left at on refl h

    go : (b : Bool) → c.goes_on ≡ b → IsSoundCourse replies (if b then calls_with step c (delivered c.state.up step) else c)
    go true on = comes (delivered c.state.up step) refl on
    go false on = h

some_sound : (replies : List Reply) (step n : ℕ) (c : Course) → IsSoundCourse replies c → IsSoundCourse replies (some_calls step n c)
some_sound replies step zero c h = h
some_sound replies step (suc n) c h = one_sound replies step (some_calls step n c) (some_sound replies step n c h)

turn_sound : (replies : List Reply) (plan : DrivePlan) (step : ℕ) (c : Course) → IsSoundCourse replies c → IsSoundCourse replies (turn plan step c)
turn_sound replies plan step c h = go c.goes_on
  where
    after : Course
    after = record c { state = begun plan step c.state }

    go : (b : Bool) → IsSoundCourse replies (if b then calling step after else c)
    go true = some_sound replies step (under_way after.state.up) after (record { sound = begun_sound replies c.calls plan step c.state h.sound; rest = h.rest })
    go false = h

pub turns_sound : (replies : List Reply) (plan : DrivePlan) (first n : ℕ) (c : Course) → IsSoundCourse replies c → IsSoundCourse replies (turns plan first n c)
turns_sound replies plan first zero c h = h
turns_sound replies plan first (suc n) c h = turn_sound replies plan (first + n) (turns plan first n c) (turns_sound replies plan first n c h)

first_sound : (up down : List Fate) (replies : List Reply) → IsSoundCourse replies (running (fresh up down) [] replies)
first_sound up down replies = record { sound = record { on_up = All-nil (SentBy []); made = All-nil (CallBy []); on_down = All-nil (PairOf replies []); told = tt }; rest = λ on. refl }

-- the calls as entries of a history

is_caller : (a v : ℕ) → a ≡ v → (a == v) ≡ true
is_caller a v e = rw e (grind (arith, nat_tests))

its_caller : (a v : ℕ) → (a == v) ≡ true → a ≡ v
its_caller a v h = grind (arith, nat_tests)

call_parts : (e : Entry) (x : Call) → call_of e ≡ Some x → (e.act ≡ act.Message x.message) × (e.moment ≡ x.moment)
call_parts e x is = go e.act refl is
  where
    go : (a : Act) → e.act ≡ a → call_at e.moment a ≡ Some x → (e.act ≡ act.Message x.message) × (e.moment ≡ x.moment)
    go (act.Message m) at is =
        let y : Call = record { moment = e.moment; message = m } in
        let same : y ≡ x = some_is y x is in
        (at ∙ ap (λ z. act.Message z.message) same, ap (λ z. z.moment) same)
    go (act.Order o) at is = none_some x is

-- the call of an entry of the vehicle, and the entry of a call

call_in : (calls : List Call) (h : List Entry) (v j : ℕ) (e : Entry) → AreCallsOf calls h v → slice_get (entries_of h v) j ≡ Some e → (x : Call) × (slice_get calls j ≡ Some x) × (call_of e ≡ Some x)
call_in calls h v j e same at = go (slice_get calls j) refl
  where
    here : option_map (λ x. Some x) (slice_get calls j) ≡ Some (call_of e)
    here = sym (slice_get-map (λ x. Some x) calls j) ∙ ap (λ xs. slice_get xs j) (sym same) ∙ slice_get-map call_of (entries_of h v) j ∙ ap (λ o. option_map call_of o) at

    go : (o : Option Call) → slice_get calls j ≡ o → (x : Call) × (slice_get calls j ≡ Some x) × (call_of e ≡ Some x)
    go None is = none_some (call_of e) (ap (λ o. option_map (λ x. Some x) o) (sym is) ∙ here)
    go (Some x) is = (x, is, sym (some_is (Some x) (call_of e) (ap (λ o. option_map (λ x. Some x) o) (sym is) ∙ here)))

entry_in : (calls : List Call) (h : List Entry) (v j : ℕ) (x : Call) → AreCallsOf calls h v → slice_get calls j ≡ Some x → (e : Entry) × (slice_get (entries_of h v) j ≡ Some e) × (call_of e ≡ Some x)
entry_in calls h v j x same at = go (slice_get (entries_of h v) j) refl
  where
    here : option_map call_of (slice_get (entries_of h v) j) ≡ Some (Some x)
    here = sym (slice_get-map call_of (entries_of h v) j) ∙ ap (λ xs. slice_get xs j) same ∙ slice_get-map (λ x. Some x) calls j ∙ ap (λ o. option_map (λ x. Some x) o) at

    go : (o : Option Entry) → slice_get (entries_of h v) j ≡ o → (e : Entry) × (slice_get (entries_of h v) j ≡ Some e) × (call_of e ≡ Some x)
    go None is = none_some (Some x) (ap (λ o. option_map call_of o) (sym is) ∙ here)
    go (Some e) is = (e, is, some_is (call_of e) (Some x) (ap (λ o. option_map call_of o) (sym is) ∙ here))

-- what a sound course says fits
sound_fits : (calls : List Call) (h : List Entry) (v : ℕ) (log : List LogItem) → AreCallsOf calls h v → All (CallBy log) calls → EachGot (Replied (replies_of h v) calls) log → Fits h v log
sound_fits calls h v log same made told = record {
  sent = λ k e at own. sent k e at own;
  got = EachGot-weaken (Replied (replies_of h v) calls) (HasReply h v) log answered told;
}
  where
    sent : (k : ℕ) (e : Entry) → slice_get h k ≡ Some e → e.caller ≡ v → CarriesSent log e
    sent k e at own =
        let j = in_filter (λ e. e.caller == v) h k e at (is_caller e.caller v own) in
        let x = call_in calls h v j.0 e same j.1 in
        let parts = call_parts e x.0 x.2 in
        let its : WasSent x.0.message x.0.moment log = all_at (CallBy log) calls j.0 x.0 made x.1 in
        record { message = x.0.message; carried = parts.0; sent = (let P : ℕ → Type 0 = λ t. WasSent x.0.message t log in subst P (sym parts.1) its) }

    answered : (seq : ℕ) (r : Reply) → Replied (replies_of h v) calls seq r → HasReply h v seq r
    answered seq r p =
        let e = entry_in calls h v p.place p.call same p.made in
        let k = from_filter (λ e. e.caller == v) h p.place e.0 e.1 in
        let parts = call_parts e.0 p.call e.2 in
        let reply : Some (reply_of e.0) ≡ Some r = ap (λ o. option_map reply_of o) (sym e.1) ∙ sym (slice_get-map reply_of (entries_of h v) p.place) ∙ p.told in
        record {
          place = k.0;
          entry = e.0;
          message = p.call.message;
          stands = k.1;
          caller = its_caller e.0.caller v k.2;
          carried = parts.0;
          number = p.number;
          told = some_is (reply_of e.0) r reply;
        }

-- the log that a driver follows fits the history in which its calls stand
pub follows_fits : (plan : DrivePlan) (up down : List Fate) (first until : ℕ) (h : List Entry) (v : ℕ) → AreCallsOf (follows_from plan up down first until (replies_of h v)).1 h v → Fits h v (follows_from plan up down first until (replies_of h v)).0
follows_fits plan up down first until h v same =
    let s = turns_sound (replies_of h v) plan first (until - first) (running (fresh up down) [] (replies_of h v)) (first_sound up down (replies_of h v)) in
    sound_fits _ h v _ same s.sound.made s.sound.told
