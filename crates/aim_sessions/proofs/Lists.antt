-- The list of the vehicles that have called.
use Rattle.std.proofs.Common.{◌≡◌, ℕ, ◌+◌, ◌*◌, ◌^◌, ◌%◌, ◌<◌, ◌≤◌, Bool, true, false, ◌||◌, List, [], ◌∷◌, ◌++◌, length, Option, Some, None, arith, refl, sym, ◌∙◌, ap, get_or, set, take, inl, inr, length-append, replicate, subst}
use Rattle.std.specs.Prelude.{◌==◌, bit_or, is_some, count_by, if◌then◌else◌, IfSome, cond, unwrap_or}
use Rattle.std.specs.List.{list_any}
use Rattle.std.proofs.Math.Decide.{dec_lt}
use Rattle.std.proofs.Math.Seq.{get_or-append_seam}
use Rattle.std.proofs.lemmas.Bool.{cases_eq, eqb-true, eq-eqb, ne_eqb}
use Rattle.std.proofs.lemmas.Nat.{one_shl}
use Rattle.std.proofs.lemmas.Nat.Bits.{bit_at-pow_same, bit_at-pow_other}
use Rattle.aim_layout.specs.Policies.{has_lane}
use Rattle.aim_rules.proofs.TestLemmas.{le_true}
use Rattle.std.proofs.lemmas.List.{get_or-replicate, get_or-set_same, get_or-set_other, set-get_or, length-replicate, length-set, get_or_append_left, take_all}
use Rattle.std.proofs.lemmas.List.Folds.{list_any-append, list_any_at, list_any_more, sum_by-replicate, Any-from_list_any}
use Rattle.std.proofs.lemmas.List.Sums.{sum_by-set, count_by-le-length}
use Rattle.aim_messages.specs.declared.entries.TheConstants.{LATEST_MOMENT}
use Rattle.aim_layout.proofs.Elements.{get_or-read}
use Rattle.aim_geometry.specs.Bounded.{some_below}
use Rattle.aim_geometry.proofs.Bits.{has_bit_or}
use Rattle.aim_geometry.proofs.BoundedLemmas.{some_below_at, some_below_found}
use Rattle.aim_sessions.specs.Calls.{is_call_in}
use Rattle.aim_sessions.specs.Listed.{IsListed}

-- equal tests, by two implications
both_ways : (a b : Bool) → (a ≡ true → b ≡ true) → (b ≡ true → a ≡ true) → a ≡ b
both_ways true b f g = sym (f refl)
both_ways false true f g = g refl
both_ways false false f g = refl

or_first : (a b : Bool) → a ≡ true → (a || b) ≡ true
or_first a b e = rw e refl

or_second : (a b : Bool) → b ≡ true → (a || b) ≡ true
or_second true b e = refl
or_second false b e = e

-- one more is marked
marked_more : (marked : List Bool) (v : ℕ) → v < length marked → get_or marked v false ≡ false → count_by (λ b. b) (set marked v true) ≡ count_by (λ b. b) marked + 1
marked_more marked v l free = let e = sum_by-set (λ b. cond b 1 0) marked v true false l in let f : cond {A = ℕ} (get_or marked v false) 1 0 ≡ 0 = ap (λ b. cond {A = ℕ} b 1 0) free in omega arith

-- no call at first
listed_none : (n : ℕ) → IsListed (replicate n None) [] (replicate n false)
listed_none n =
    let calls = length-replicate {A = Option (ℕ × ℕ)} n None in
    let none : (v : ℕ) → v < length (replicate {A = Option (ℕ × ℕ)} n None) → get_or (replicate {A = Option (ℕ × ℕ)} n None) v None ≡ None = λ v l. get_or-replicate {A = Option (ℕ × ℕ)} n v None None (omega (arith, l, calls)) in
    let free : (v : ℕ) → v < length (replicate {A = Option (ℕ × ℕ)} n None) → get_or (replicate n false) v false ≡ false = λ v l. get_or-replicate n v false false (omega (arith, l, calls)) in record {
      long = length-replicate n false ∙ sym calls;
      count = let e = sum_by-replicate (λ b. cond {A = ℕ} b 1 0) n false in omega arith;
      below = λ k d l. absurd (omega (arith, l));
      all = λ v l set. let f = free v l in absurd (cc (f, set));
      calling = λ v l some. absurd (let e : false ≡ true = rw (none v l) at some in cc e);
      range = λ v lane arrive l e. let f = none v l in absurd (cc (f, e));
    }

-- what no call is like but none
pub none_alone : {A : Type 0} (R : Option A → Type 0) → ((x : A) → R (Some x) → ⊥) → (o : Option A) → R o → o ≡ None
none_alone R other None r = refl
none_alone R other (Some x) r = absurd (other x r)

-- lists of as many vehicles, none of which has called
pub listed_new : (calls : List (Option (ℕ × ℕ))) (callers : List ℕ) (marked : List Bool) (n most : ℕ) → calls ≡ replicate n None → callers ≡ [] → marked ≡ replicate n false → n ≤ most → IsListed calls callers marked × (length calls ≤ most)
listed_new calls callers marked n most none empty free room = (
  rw (none, empty, free) (listed_none n),
  subst (λ k. k ≤ most) (sym (ap (λ (l : List (Option (ℕ × ℕ))). length l) none ∙ length-replicate {A = Option (ℕ × ℕ)} n None)) room,
)

-- as long as a vehicle is not listed, there is room for it
room_left : (calls : List (Option (ℕ × ℕ))) (callers : List ℕ) (marked : List Bool) (v : ℕ) → IsListed calls callers marked → v < length calls → get_or marked v false ≡ false → length callers < length calls
room_left calls callers marked v is l free =
    let m : v < length marked = let a = is.long in omega arith in
    let e = marked_more marked v m free in
    let most = count_by-le-length (λ b. b) (set marked v true) in
    let long = length-set marked v true in
    let a = is.long in let b = is.count in omega arith

-- a vehicle of the list calls again, or one clears its call
listed_same : (calls : List (Option (ℕ × ℕ))) (callers : List ℕ) (marked : List Bool) (v : ℕ) (call : Option (ℕ × ℕ)) → IsListed calls callers marked → v < length calls → (is_some call ≡ true → get_or marked v false ≡ true) →
    ((lane arrive : ℕ) → call ≡ Some (lane, arrive) → (lane < 16) × (arrive ≤ LATEST_MOMENT)) → IsListed (set calls v call) callers marked
listed_same calls callers marked v call is l known range =
    let size = length-set calls v call in record {
      long = is.long ∙ sym size;
      count = is.count;
      below = λ k d m. rw size (is.below k d m);
      all = λ u m set. is.all u (omega (arith, m, size)) set;
      calling = λ u m some. elim (cases_eq u v) [
        | inl e ↦ rw e (known (rw (e, get_or-set_same calls v call None l) at some))
        | inr n ↦ is.calling u (omega (arith, m, size)) (rw (get_or-set_other calls v u call None n) at some)
      ];
      range = λ u lane arrive m e. elim (cases_eq u v) [
        | inl s ↦ range lane arrive (rw (s, get_or-set_same calls v call None l) at e)
        | inr n ↦ is.range u lane arrive (omega (arith, m, size)) (rw (get_or-set_other calls v u call None n) at e)
      ];
    }

listed_more : (calls : List (Option (ℕ × ℕ))) (callers : List ℕ) (marked : List Bool) (v : ℕ) (call : Option (ℕ × ℕ)) → IsListed calls callers marked → v < length calls → get_or marked v false ≡ false →
    ((lane arrive : ℕ) → call ≡ Some (lane, arrive) → (lane < 16) × (arrive ≤ LATEST_MOMENT)) → IsListed (set calls v call) (callers ++ v ∷ []) (set marked v true)
listed_more calls callers marked v call is l free range =
    let there : v < length marked = let a = is.long in omega arith in record {
      long = length-set marked v true ∙ is.long ∙ sym (length-set calls v call);
      count = let e = marked_more marked v there free in let a = length-append callers (v ∷ []) in let b = is.count in omega arith;
      below = λ k d m. let size = length-set calls v call in elim (dec_lt k (length callers)) [
        | yes n ↦ (let b = is.below k d n in rw (get_or_append_left callers (v ∷ []) d k n) (omega arith))
        | no n ↦ (let e : k ≡ length callers = omega (arith, length-append callers (v ∷ [])) in rw (e, get_or-append_seam callers v [] d) (omega arith))
      ];
      all = λ u m set. rw (list_any-append (λ w. w == u) callers (v ∷ [])) (elim (cases_eq u v) [
        | inl e ↦ or_second (list_any (λ w. w == u) callers) ((v == u) || false) (let t : (v == u) ≡ true = eq-eqb v u (sym e) in rw t refl)
        | inr n ↦ or_first (list_any (λ w. w == u) callers) ((v == u) || false) (is.all u (let size = length-set calls v call in omega arith) (rw (get_or-set_other marked v u true false n) at set))
      ]);
      calling = λ u m some. elim (cases_eq u v) [
        | inl e ↦ (rw (e, get_or-set_same marked v true false there) refl)
        | inr n ↦ (rw (get_or-set_other marked v u true false n) (is.calling u (let size = length-set calls v call in omega arith) (rw (get_or-set_other calls v u call None n) at some)))
      ];
      range = λ u lane arrive m e. elim (cases_eq u v) [
        | inl s ↦ range lane arrive (rw (s, get_or-set_same calls v call None l) at e)
        | inr n ↦ is.range u lane arrive (let size = length-set calls v call in omega arith) (rw (get_or-set_other calls v u call None n) at e)
      ];
    }

-- a vehicle that calls is listed from then on
listed_noted : (calls : List (Option (ℕ × ℕ))) (callers new : List ℕ) (marked : List Bool) (v : ℕ) (call : Option (ℕ × ℕ)) → IsListed calls callers marked → v < length calls →
    ((lane arrive : ℕ) → call ≡ Some (lane, arrive) → (lane < 16) × (arrive ≤ LATEST_MOMENT)) → new ≡ (if get_or marked v false then callers else callers ++ v ∷ []) → IsListed (set calls v call) new (set marked v true)
listed_noted calls callers new marked v call is l range e = go (get_or marked v false) refl
  where
    go : (b : Bool) → get_or marked v false ≡ b → IsListed (set calls v call) new (set marked v true)
    go true f =
        let same : set marked v true ≡ marked = subst (λ b. set marked v b ≡ marked) f (set-get_or marked v false) in
        let old : new ≡ callers = rw f at e in
        rw (same, old) (listed_same calls callers marked v call is l (λ _. f) range)
    go false f = let more : new ≡ callers ++ v ∷ [] = rw f at e in rw more (listed_more calls callers marked v call is l f range)

some_of : (test : Option (ℕ × ℕ) → Bool) (o : Option (ℕ × ℕ)) → test None ≡ false → test o ≡ true → is_some o ≡ true
some_of test None none h = absurd (cc)
some_of test (Some x) none h = refl

-- a question of the calls, asked of the list
pub calls_listed : (calls : List (Option (ℕ × ℕ))) (callers : List ℕ) (marked : List Bool) (test : Option (ℕ × ℕ) → Bool) → IsListed calls callers marked → test None ≡ false →
    list_any (λ w. test (get_or calls w None)) callers ≡ list_any test calls
calls_listed calls callers marked test is none = both_ways (list_any (λ w. test (get_or calls w None)) callers) (list_any test calls)
    (λ h. let f = Any-from_list_any (λ w. test (get_or calls w None)) callers h in
    let b : f.1 < length calls = subst (λ w. w < length calls) f.3 (is.below f.0 f.1 f.2) in list_any_at test calls f.1 None b f.4)
    (λ h. let f = Any-from_list_any test calls h in
    let here : get_or calls f.0 None ≡ f.1 = get_or-read calls f.0 f.1 None f.2 (sym f.3) in
    let some : is_some (get_or calls f.0 None) ≡ true = rw here (some_of test f.1 none f.4) in
    let g = Any-from_list_any (λ w. w == f.0) callers (is.all f.0 f.2 (is.calling f.0 f.2 some)) in
    let same : g.1 ≡ f.0 = eqb-true g.1 f.0 g.4 in
    let read : get_or callers g.0 g.1 ≡ f.0 = g.3 ∙ same in
    list_any_at (λ w. test (get_or calls w None)) callers g.0 g.1 g.2 (rw (read, here) f.4))

-- a question of a list, asked number by number
pub list_any-below : (calls : List (Option (ℕ × ℕ))) (test : Option (ℕ × ℕ) → Bool) → list_any test calls ≡ some_below (length calls) (λ k. test (get_or calls k None))
list_any-below calls test = both_ways (list_any test calls) (some_below (length calls) (λ k. test (get_or calls k None)))
    (λ h. let f = Any-from_list_any test calls h in some_below_at (length calls) (λ k. test (get_or calls k None)) f.0 f.2 (rw (get_or-read calls f.0 f.1 None f.2 (sym f.3)) f.4))
    (λ h. let f = some_below_found (length calls) (λ k. test (get_or calls k None)) h in list_any_at test calls f.0 None f.1 f.2)

-- the set of one lane
pub one_lane : (place now arrive horizon lane : ℕ) → place < 16 → now ≤ arrive + horizon → has_lane (1 * 2 ^ place % 65536) lane ≡ is_call_in now horizon lane (Some (place, arrive))
one_lane place now arrive horizon lane l due = elim (cases_eq lane place) [
  | inl e ↦ rw (one_shl place 16 l, e, bit_at-pow_same place, eq-eqb place place refl, le_true now (arrive + horizon) due) refl
  | inr n ↦ (let other : (place == lane) ≡ false = ne_eqb place lane (λ e. n (sym e)) in rw (one_shl place 16 l, bit_at-pow_other place lane n, other) refl)
]

pub call_range : (call : Option (ℕ × ℕ)) → IfSome call (λ c. (c.0 < 16) × (c.1 ≤ LATEST_MOMENT)) → (lane arrive : ℕ) → call ≡ Some (lane, arrive) → (lane < 16) × (arrive ≤ LATEST_MOMENT)
call_range None h lane arrive e = absurd (cc)
call_range (Some (a, b)) h lane arrive e =
    let first : a ≡ lane = ap (λ (o : Option (ℕ × ℕ)). (unwrap_or o (0, 0)).0) e in
    let second : b ≡ arrive = ap (λ (o : Option (ℕ × ℕ)). (unwrap_or o (0, 0)).1) e in
    (subst (λ k. k < 16) first h.0, subst (λ k. k ≤ LATEST_MOMENT) second h.1)

-- the range of a call that is read
pub read_range : (calls : List (Option (ℕ × ℕ))) (callers : List ℕ) (marked : List Bool) (v : ℕ) → IsListed calls callers marked → v < length calls → IfSome (get_or calls v None) (λ c. (c.0 < 16) × (c.1 ≤ LATEST_MOMENT))
read_range calls callers marked v is l = go (get_or calls v None) refl
  where
    go : (o : Option (ℕ × ℕ)) → get_or calls v None ≡ o → IfSome o (λ c. (c.0 < 16) × (c.1 ≤ LATEST_MOMENT))
    go None e = tt
    go (Some (lane, arrive)) e = is.range v lane arrive l e

-- the same of a vehicle of the list
pub range_read : (calls : List (Option (ℕ × ℕ))) (callers read : List ℕ) (marked : List Bool) (k : ℕ) (x : Option (ℕ × ℕ)) → IsListed calls callers marked → read ≡ callers → k < length read → x ≡ get_or calls (get_or read k 0) x →
    IfSome x (λ c. (c.0 < 16) × (c.1 ≤ LATEST_MOMENT))
range_read calls callers read marked k x is same l at =
    let below : get_or read k 0 < length calls = subst (λ (xs : List ℕ). get_or xs k 0 < length calls) (sym same) (is.below k 0 (subst (λ (xs : List ℕ). k < length xs) same l)) in
    subst (λ (o : Option (ℕ × ℕ)). IfSome o (λ c. (c.0 < 16) × (c.1 ≤ LATEST_MOMENT))) (get_or-read calls (get_or read k 0) x None below at) (read_range calls callers marked (get_or read k 0) is below)

-- one more vehicle of the list
pub called_more : (calls : List (Option (ℕ × ℕ))) (callers : List ℕ) (k lanes new now horizon lane : ℕ) (x : Option (ℕ × ℕ)) → k < length callers → get_or callers k 0 < length calls → x ≡ get_or calls (get_or callers k 0) x →
    has_lane lanes lane ≡ list_any (λ w. is_call_in now horizon lane (get_or calls w None)) (take k callers) → has_lane new lane ≡ is_call_in now horizon lane x →
    has_lane (bit_or lanes new) lane ≡ list_any (λ w. is_call_in now horizon lane (get_or calls w None)) (take (k + 1) callers)
called_more calls callers k lanes new now horizon lane x l there read old more =
    let q : ℕ → Bool = λ w. is_call_in now horizon lane (get_or calls w None) in
    has_bit_or lanes new lane
    ∙ ap (λ b. b || has_lane new lane) old
    ∙ ap (λ b. list_any q (take k callers) || b) (more ∙ ap (λ o. is_call_in now horizon lane o) (sym (get_or-read calls (get_or callers k 0) x None there read)))
    ∙ sym (list_any_more q callers k 0 l)

-- all vehicles of the list
pub called_all : (calls : List (Option (ℕ × ℕ))) (callers : List ℕ) (marked : List Bool) (k now horizon lane : ℕ) → IsListed calls callers marked → length callers ≤ k →
    list_any (λ w. is_call_in now horizon lane (get_or calls w None)) (take k callers) ≡ list_any (is_call_in now horizon lane) calls
called_all calls callers marked k now horizon lane is past =
    ap (list_any (λ w. is_call_in now horizon lane (get_or calls w None))) (take_all k callers past) ∙ calls_listed calls callers marked (is_call_in now horizon lane) is refl

-- a place in a list
pub within : {X : Type 0} (xs ys : List X) (len k : ℕ) → xs ≡ ys → length xs ≡ len → k < length ys → k < len
within {X = X} xs ys len k same size l = subst (λ n. k < n) size (subst (λ (zs : List X). k < length zs) (sym same) l)

-- a vehicle of the list has its place among the calls
pub listed_within : (calls : List (Option (ℕ × ℕ))) (callers read : List ℕ) (marked : List Bool) (len k : ℕ) → IsListed calls callers marked → length calls ≡ len → read ≡ callers → k < length read → get_or read k 0 < len
listed_within calls callers read marked len k is size same l =
    subst (λ n. get_or read k 0 < n) size (subst (λ (xs : List ℕ). get_or xs k 0 < length calls) (sym same) (is.below k 0 (subst (λ (xs : List ℕ). k < length xs) same l)))

-- a call is noted, and its vehicle listed
pub noted : (calls now : List (Option (ℕ × ℕ))) (callers new : List ℕ) (marked marked' : List Bool) (v most most' : ℕ) (call : Option (ℕ × ℕ)) → IsListed calls callers marked × (length calls ≤ most) → v < length calls →
    IfSome call (λ c. (c.0 < 16) × (c.1 ≤ LATEST_MOMENT)) → now ≡ set calls v call → marked' ≡ set marked v true → new ≡ (if get_or marked v false then callers else callers ++ v ∷ []) → most' ≡ most → IsListed now new marked' × (length now ≤ most')
noted calls now callers new marked marked' v most most' call is l range set_is marked_is new_is same = (
  rw (set_is, marked_is) (listed_noted calls callers new marked v call is.0 l (call_range call range) new_is),
  rw (set_is, same, length-set calls v call) is.1,
)

-- a call is cleared
pub cleared : (calls now : List (Option (ℕ × ℕ))) (callers : List ℕ) (marked : List Bool) (v most : ℕ) (call : Option (ℕ × ℕ)) → IsListed calls callers marked × (length calls ≤ most) → v < length calls →
    IfSome call (λ c. (c.0 < 16) × (c.1 ≤ LATEST_MOMENT)) → now ≡ set calls v call → false ≡ is_some call → IsListed now callers marked × (length now ≤ most)
cleared calls now callers marked v most call is l range set_is none = (
  rw set_is (listed_same calls callers marked v call is.0 l (λ some. absurd (cc (none, some))) (call_range call range)),
  rw (set_is, length-set calls v call) is.1,
)

-- a vehicle that isn't listed finds room
pub room_for : (calls : List (Option (ℕ × ℕ))) (callers : List ℕ) (marked : List Bool) (v most : ℕ) → IsListed calls callers marked × (length calls ≤ most) → v < length calls → get_or marked v false ≡ false → length callers < most
room_for calls callers marked v most is l free = let less = room_left calls callers marked v is.0 l free in let room = is.1 in omega (arith, less, room)
