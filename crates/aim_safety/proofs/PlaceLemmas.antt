-- What stands where in a history, and what each of its beginnings leaves to a vehicle.
use Rattle.std.proofs.Common.{◌≡◌, ◌⊎◌, inl, inr, ℕ, zero, suc, ◌+◌, ◌<◌, ◌≤◌, Bool, true, false, List, [], ◌∷◌, ◌++◌, length, take, drop, get_or, max, Option, Some, None, arith, refl, sym, ap, subst, ◌∙◌, slice_get, length-append, length-take}
use Rattle.std.specs.Prelude.{◌==◌, if◌then◌else◌}
use Rattle.std.specs.List.{list_all}
use Rattle.std.proofs.lemmas.Bool.Decides.{nat_tests}
use Rattle.std.proofs.lemmas.List.{take_more, take-append-le, take-append-drop, take-take, get_or_append_left}
use Rattle.std.proofs.lemmas.List.Folds.{list_all_at}
use Rattle.std.proofs.lemmas.Option.{get_or_from_slice_get, slice_get-get_or, slice_get_within}
use Rattle.std.proofs.Math.Seq.{take-append_seam, get_or-append_seam}
use Rattle.aim_messages.specs.declared.messages.Message.{Message}
use Rattle.aim_messages.specs.declared.entries.Entry.{Entry}
use Rattle.aim_messages.specs.declared.entries.Act.TheVariants as act
use Rattle.aim_layout.specs.Intersection.{Intersection}
use Rattle.aim_rules.specs.Cells.{IsIn}
use Rattle.aim_rules.specs.History.{Fresh, fresh, is_fresh, is_fresh_seq, is_above, is_confirm, message_from, given_up_at, now_of}
use Rattle.aim_rules.specs.Holds.{is_number}
use Rattle.aim_rules.specs.Kept.{kept, kept_next, without}
use Rattle.aim_rules.specs.Legal.{IsLegal, IsAnswered}
use Rattle.aim_rules.proofs.HistoryLemmas.{served}
use Rattle.aim_rules.proofs.HistoryLaws.{fresh-one, fresh-none, now_of-snoc}
use Rattle.aim_rules.proofs.LegalLemmas.{IsLegal-before}
use Rattle.aim_rules.proofs.Lists.{from_front, IsIn-snoc}
use Rattle.aim_rules.proofs.VehicleLaws.{kept-snoc}
use Rattle.aim_rules.proofs.TakenLaws.{kept-is, place-below}

pub some_same : {X : Type 0} (a b : X) → Some a ≡ Some b → a ≡ b
some_same a b p = cc

-- one more entry of a beginning
pub take_next : {X : Type 0} (xs : List X) (k : ℕ) (x : X) → slice_get xs k ≡ Some x → take (k + 1) xs ≡ take k xs ++ x ∷ []
take_next xs k x h = take_more xs k x (slice_get_within xs k x h) ∙ ap (λ y. take k xs ++ y ∷ []) (get_or_from_slice_get xs k x x h)

get-left : {X : Type 0} (xs ys : List X) (k : ℕ) (x : X) → slice_get xs k ≡ Some x → slice_get (xs ++ ys) k ≡ Some x
get-left xs ys k x h =
    let l = slice_get_within xs k x h in
    let m : k < length (xs ++ ys) = omega (arith, length-append xs ys) in
    slice_get-get_or (xs ++ ys) k x m ∙ ap (λ y. Some y) (get_or_append_left xs ys x k l ∙ get_or_from_slice_get xs k x x h)

get-seam : {X : Type 0} (xs : List X) (x : X) → slice_get (xs ++ x ∷ []) (length xs) ≡ Some x
get-seam xs x =
    let m : length xs < length (xs ++ x ∷ []) = omega (arith, length-append xs (x ∷ [])) in
    slice_get-get_or (xs ++ x ∷ []) (length xs) x m ∙ ap (λ y. Some y) (get_or-append_seam xs x [] x)

-- an entry of a beginning is one of the whole
get-take : {X : Type 0} (xs : List X) (n k : ℕ) (x : X) → slice_get (take n xs) k ≡ Some x → slice_get xs k ≡ Some x
get-take xs n k x h = ap (λ ys. slice_get ys k) (sym (take-append-drop n xs)) ∙ get-left (take n xs) (drop n xs) k x h

-- what legality says of an entry, and of a beginning
pub legal_at : (i : Intersection) (vehicles : ℕ) (h : List Entry) (k : ℕ) (e : Entry) → IsLegal i vehicles h → slice_get h k ≡ Some e → IsAnswered i (take k h) e
legal_at i vehicles h k e legal at =
    let a = legal.answered k e (slice_get_within h k e at) in
    rw (get_or_from_slice_get h k e e at) at a

pub legal_take : (i : Intersection) (vehicles : ℕ) (h : List Entry) (k : ℕ) → IsLegal i vehicles h → IsLegal i vehicles (take k h)
legal_take i vehicles h k legal = let P : List Entry → Type 0 = λ g. IsLegal i vehicles g in IsLegal-before i vehicles (take k h) (drop k h) (subst P (sym (take-append-drop k h)) legal)

-- where a fresh message stands
pub record IsFreshAt (h : List Entry) (x : Fresh) : Type 0 where
  pub entry : slice_get h x.place ≡ Some x.entry
  pub fresh : is_fresh (take x.place h) x.entry ≡ true

grow : (h : List Entry) (e : Entry) (x : Fresh) → IsFreshAt h x → IsFreshAt (h ++ e ∷ []) x
grow h e x b =
    let l = slice_get_within h x.place x.entry b.entry in
    let t = take-append-le x.place h (e ∷ []) (omega arith) in
    record { entry = get-left h (e ∷ []) x.place x.entry b.entry; fresh = rw t b.fresh }

stands_at : (h : List Entry) (x : Fresh) → IsIn x (fresh h) → IsFreshAt h x
stands_at h x m = from_front (λ h. IsIn x (fresh h) → IsFreshAt h x) (λ n. absurd n) (λ h e earlier n. go h e earlier (is_fresh h e) refl n) h m
  where
    go : (h : List Entry) (e : Entry) → (IsIn x (fresh h) → IsFreshAt h x) → (b : Bool) → is_fresh h e ≡ b → IsIn x (fresh (h ++ e ∷ [])) → IsFreshAt (h ++ e ∷ []) x
    go h e earlier false f n = grow h e x (earlier (rw (fresh-none h e f) at n))
    go h e earlier true f n = elim (IsIn-snoc (fresh h) (served h e) x (rw (fresh-one h e f) at n)) [
      | inl a ↦ grow h e x (earlier a)
      | inr s ↦ rw s (record { entry = get-seam h e; fresh = rw (take-append_seam h (e ∷ [])) f })
    ]

-- a fresh message of a beginning stands there
pub fresh_in_take : (h : List Entry) (k : ℕ) (x : Fresh) → k ≤ length h → IsIn x (fresh (take k h)) → (x.place < k) × IsFreshAt h x
fresh_in_take h k x l m =
    let s = stands_at (take k h) x m in
    let b = place-below (take k h) x m in
    let below : x.place < k = omega (arith, length-take k h) in
    let same = take-take x.place k h (omega arith) in
    (below, record { entry = get-take h k x.place x.entry s.entry; fresh = rw same at s.fresh })

-- time after one more entry
pub now_next : (h : List Entry) (k : ℕ) (e : Entry) → slice_get h k ≡ Some e → now_of (take (k + 1) h) 0 ≡ max (now_of (take k h) 0) e.moment
now_next h k e at = ap (λ g. now_of g 0) (take_next h k e at) ∙ now_of-snoc (take k h) e 0

-- what a vehicle keeps after one more entry
pub kept_same : (h : List Entry) (k : ℕ) (e : Entry) (v : ℕ) → slice_get h k ≡ Some e → is_fresh (take k h) e ≡ false → kept (fresh (take (k + 1) h)) v ≡ kept (fresh (take k h)) v
kept_same h k e v at f = ap (λ g. kept (fresh g) v) (take_next h k e at) ∙ ap (λ xs. kept xs v) (fresh-none (take k h) e f)

pub kept_fresh : (h : List Entry) (k : ℕ) (e : Entry) (v : ℕ) → slice_get h k ≡ Some e → is_fresh (take k h) e ≡ true →
    kept (fresh (take (k + 1) h)) v ≡ (if e.caller == v then kept_next (kept (fresh (take k h)) v) (served (take k h) e) else kept (fresh (take k h)) v)
kept_fresh h k e v at f = ap (λ g. kept (fresh g) v) (take_next h k e at) ∙ ap (λ xs. kept xs v) (fresh-one (take k h) e f) ∙ kept-snoc (fresh (take k h)) (served (take k h) e) v

-- what is kept after one more message is that message, or was kept before it
kept_cases : (o : Option Fresh) (y x : Fresh) → kept_next o y ≡ Some x → (y ≡ x) ⊎ (o ≡ Some x)
kept_cases o y x h = go (is_confirm y.entry.reply) h
  where
    named : (b : Bool) (z : Fresh) → (if b then None else Some z) ≡ Some x → Some z ≡ Some x
    named true z h = absurd (cc)
    named false z h = h

    kept_on : (o : Option Fresh) → without (given_up_at y) o ≡ Some x → o ≡ Some x
    kept_on None h = h
    kept_on (Some z) h = named (is_number (given_up_at y) z.place) z h

    go : (b : Bool) → (if b then Some y else without (given_up_at y) o) ≡ Some x → (y ≡ x) ⊎ (o ≡ Some x)
    go true h = inl (some_same y x h)
    go false h = inr (kept_on o h)

-- what is kept was kept since it was granted
kept_back : (h : List Entry) (k : ℕ) (e : Entry) (v : ℕ) (x : Fresh) → slice_get h k ≡ Some e → x.place < k → kept (fresh (take (k + 1) h)) v ≡ Some x → kept (fresh (take k h)) v ≡ Some x
kept_back h k e v x at l kept_then = go (is_fresh (take k h) e) refl
  where
    within : k < length h
    within = slice_get_within h k e at

    own : (b : Bool) → (if b then kept_next (kept (fresh (take k h)) v) (served (take k h) e) else kept (fresh (take k h)) v) ≡ Some x → kept (fresh (take k h)) v ≡ Some x
    own false p = p
    own true p = elim (kept_cases (kept (fresh (take k h)) v) (served (take k h) e) x p) [
      | inl s ↦ absurd (let q : length (take k h) ≡ x.place = ap (λ z. z.place) s in let w = within in omega (arith, length-take k h))
      | inr q ↦ q
    ]

    go : (b : Bool) → is_fresh (take k h) e ≡ b → kept (fresh (take k h)) v ≡ Some x
    go false f = sym (kept_same h k e v at f) ∙ kept_then
    go true f = own (e.caller == v) (sym (kept_fresh h k e v at f) ∙ kept_then)

pub entry_at : (h : List Entry) (k : ℕ) → k < length h → (e : Entry) × (slice_get h k ≡ Some e)
entry_at [] k l = absurd (omega arith)
entry_at (e ∷ es) k l = (get_or (e ∷ es) k e, slice_get-get_or (e ∷ es) k e l)

pub kept_since : (h : List Entry) (v : ℕ) (x : Fresh) (l : ℕ) → x.place < l → (n : ℕ) → l + n ≤ length h → kept (fresh (take (l + n) h)) v ≡ Some x → kept (fresh (take l h)) v ≡ Some x
kept_since h v x l b zero m k = let s : l + 0 ≡ l = omega arith in rw s at k
kept_since h v x l b (suc n) m k =
    let s : l + suc n ≡ (l + n) + 1 = omega arith in
    let e = entry_at h (l + n) (omega arith) in
    kept_since h v x l b n (omega arith) (kept_back h (l + n) e.0 v x e.1 (omega arith) (rw s at k))

-- what is kept stands in the history
pub kept_stands : (h : List Entry) (k v : ℕ) (x : Fresh) → k ≤ length h → kept (fresh (take k h)) v ≡ Some x → (x.place < k) × (slice_get h x.place ≡ Some x.entry)
kept_stands h k v x l kept_then =
    let f = fresh_in_take h k x l (kept-is (fresh (take k h)) v x kept_then).there in
    (f.0, f.1.entry)

passes_at : {X : Type 0} (p : X → Bool) (xs : List X) (k : ℕ) (x : X) → list_all p xs ≡ true → slice_get xs k ≡ Some x → p x ≡ true
passes_at p xs k x all at = go (p x) refl
  where
    go : (b : Bool) → p x ≡ b → p x ≡ true
    go true e = e
    go false e =
        let g = get_or_from_slice_get xs k x x at in
        let n = list_all_at p xs k x (slice_get_within xs k x at) (ap p g ∙ e) in absurd (cc)

-- a number that is fresh after a beginning is above each of the vehicle's numbers in it
pub above_earlier : (h : List Entry) (k j v seq : ℕ) (e : Entry) (m : Message) → is_fresh_seq (take k h) v seq ≡ true → j < k → slice_get h j ≡ Some e → e.caller ≡ v → e.act ≡ act.Message m → m.seq < seq
above_earlier h k j v seq e m new l at own carried =
    let within = slice_get_within h j e at in
    let there : slice_get (take k h) j ≡ Some e = slice_get-take h k j l ∙ at in
    let a = passes_at (λ e. is_above seq (message_from v e)) (take k h) j e new there in
    let own_test : (e.caller == v) ≡ true = same_test e.caller v own in
    less m.seq seq (rw (own_test, carried) at a)
  where
    slice_get-take : {X : Type 0} (xs : List X) (k j : ℕ) → j < k → slice_get (take k xs) j ≡ slice_get xs j
    slice_get-take xs zero j l = absurd (omega arith)
    slice_get-take [] (suc k) j l = refl
    slice_get-take (x ∷ xs) (suc k) zero l = refl
    slice_get-take (x ∷ xs) (suc k) (suc j) l = slice_get-take xs k j (omega arith)

    same_test : (a b : ℕ) → a ≡ b → (a == b) ≡ true
    same_test a b p = grind (arith, nat_tests)

    less : (a b : ℕ) → is_above b (Some (record m { seq = a })) ≡ true → a < b
    less a b p = grind (arith, nat_tests)
