-- A script with one line more.
use Rattle.std.proofs.Common.{◌≡◌, ◌⊎◌, ℕ, zero, suc, ◌+◌, ◌<◌, ◌≤◌, ◌==◌, Bool, true, false, ◌&&◌, nat_le, nat_lt, List, [], ◌∷◌, ◌++◌, length, take, Option, Some, None, replicate, slice_index, slice_set, refl, sym, ap, ◌∙◌, subst, inl, inr, arith, length-append, slice_get}
use Rattle.std.specs.Prelude.{if◌then◌else◌}
use Rattle.std.specs.Option.{unwrap_or}
use Rattle.std.proofs.lemmas.Bool.{and_parts, leb-true, ltb-true, eqb-true, eq-eqb}
use Rattle.std.proofs.lemmas.List.{take-append-le, get_or-set_same, get_or-set_other, length-set, get_or-replicate}
use Rattle.std.proofs.Math.Seq.{take-append_seam}
use Rattle.std.proofs.lemmas.List.Elements.{filter_map-append}
use Rattle.aim_shards_command.specs.declared.decisions.ClaimKind.{ClaimKind}
use Rattle.aim_shards_command.specs.declared.decisions.ClaimKind.TheVariants as kind
use Rattle.aim_shards_command.specs.declared.lines.ShardLine.{ShardLine}
use Rattle.aim_shards_command.specs.declared.lines.ShardLine.TheVariants as line
use Rattle.aim_shards_command.specs.Said.{ask_in, asked_of, set_in, sets_of, terms_of}
use Rattle.aim_shards_command.specs.Kinds.{IsScript, are_terms, belongs, kind_of_fault, last_of, number_fault, part_after, unless_fits}
use Rattle.aim_shards_command.specs.Keeps.{Keeps}

some_is : {A : Type 0} (x y : A) → Some x ≡ Some y → x ≡ y
some_is x y e = ap (λ o. unwrap_or o x) e

none_some : {A : Type 0} (x : A) → None ≡ Some x → ⊥
none_some x e = cc

-- an element of the longer list is one of the shorter, or the last
pub get_more : {A : Type 0} (xs : List A) (x : A) (k : ℕ) (m : A) → slice_get (xs ++ x ∷ []) k ≡ Some m → ((k < length xs) × (slice_get xs k ≡ Some m)) ⊎ ((k ≡ length xs) × (m ≡ x))
get_more [] x zero m e = inr (refl, sym (some_is x m e))
get_more [] x (suc k) m e = absurd (none_some m e)
get_more (y ∷ xs) x zero m e = inl (omega arith, e)
get_more (y ∷ xs) x (suc k) m e = at (get_more xs x k m e)
  where
    at : ((k < length xs) × (slice_get xs k ≡ Some m)) ⊎ ((k ≡ length xs) × (m ≡ x)) → ((suc k < length (y ∷ xs)) × (slice_get (y ∷ xs) (suc k) ≡ Some m)) ⊎ ((suc k ≡ length (y ∷ xs)) × (m ≡ x))
    at (inl p) = inl (omega (arith, p.0), p.1)
    at (inr p) = inr (ap suc p.0, p.1)

pub script_more : (lines : List ShardLine) (l : ShardLine) → IsScript lines → kind_of_fault lines l ≡ None → IsScript (lines ++ l ∷ [])
script_more lines l s none = record { each = λ k m e. at k m (get_more lines l k m e) }
  where
    at : (k : ℕ) (m : ShardLine) → ((k < length lines) × (slice_get lines k ≡ Some m)) ⊎ ((k ≡ length lines) × (m ≡ l)) → kind_of_fault (take k (lines ++ l ∷ [])) m ≡ None
    at k m (inl p) = ap (λ before. kind_of_fault before m) (take-append-le k lines (l ∷ []) (omega (arith, p.0))) ∙ s.each k m p.1
    at k m (inr p) = (λ i. kind_of_fault (take (p.0 i) (lines ++ l ∷ [])) (p.1 i)) ∙ (ap (λ before. kind_of_fault before l) (take-append_seam lines (l ∷ [])) ∙ none)

pub unless_none : (why : ClaimKind) (b : Bool) → unless_fits why b ≡ None → b ≡ true
unless_none why true e = refl
unless_none why false e = absurd cc

pub order_of : (lines : List ShardLine) (l : ShardLine) → kind_of_fault lines l ≡ None → (belongs (part_after (last_of lines)) l ≡ true) × (number_fault lines l ≡ None)
order_of lines l none = at (belongs (part_after (last_of lines)) l) refl none
  where
    at : (b : Bool) → belongs (part_after (last_of lines)) l ≡ b → kind_of_fault lines l ≡ None → (belongs (part_after (last_of lines)) l ≡ true) × (number_fault lines l ≡ None)
    at true e none = (e, rw e at none)
    at false e none = absurd (cc (rw e at none))

not_some : {A : Type 0} (o : Option A) → ((x : A) → o ≡ Some x → ⊥) → o ≡ None
not_some None h = refl
not_some (Some x) h = absurd (h x refl)

sets_more : (lines : List ShardLine) (l : ShardLine) → length (sets_of (lines ++ l ∷ [])) ≡ length (sets_of lines) + length (sets_of (l ∷ []))
sets_more lines l = ap length (filter_map-append set_in lines (l ∷ [])) ∙ length-append (sets_of lines) (sets_of (l ∷ []))

asked_more : (c : ℕ) (lines : List ShardLine) (l : ShardLine) → length (asked_of c (lines ++ l ∷ [])) ≡ length (asked_of c lines) + length (asked_of c (l ∷ []))
asked_more c lines l = ap length (filter_map-append (ask_in c) lines (l ∷ [])) ∙ length-append (asked_of c lines) (asked_of c (l ∷ []))

terms_low : (n horizon callers : ℕ) → are_terms n horizon callers ≡ true → callers ≤ 64
terms_low n horizon callers e =
    let a = and_parts (nat_le 1 n && nat_le n 64) ((nat_le 1 horizon && nat_le horizon 8192) && (nat_le 1 callers && nat_le callers 64)) e in
    let b = and_parts (nat_le 1 horizon && nat_le horizon 8192) (nat_le 1 callers && nat_le callers 64) a.1 in
    leb-true callers 64 ((and_parts (nat_le 1 callers) (nat_le callers 64) b.1).1)

first_terms : (l : ShardLine) → belongs (part_after None) l ≡ true → number_fault [] l ≡ None → (let t = terms_of (l ∷ []) in t.callers ≤ 64)
first_terms (line.Shards n horizon callers) may none = terms_low n horizon callers (unless_none _ (are_terms n horizon callers) none)
first_terms (line.Set ns) may none = absurd cc
first_terms (line.Claim caller set) may none = absurd cc
first_terms (line.Free caller call) may none = absurd cc
first_terms line.End may none = absurd cc

terms_more : (lines : List ShardLine) (l : ShardLine) → kind_of_fault lines l ≡ None → (let t = terms_of lines in t.callers ≤ 64) → (let t = terms_of (lines ++ l ∷ []) in t.callers ≤ 64)
terms_more [] l none low = (let o = order_of [] l none in first_terms l o.0 o.1)
terms_more (x ∷ lines) l none low = low

keeps_with : (lines : List ShardLine) (l : ShardLine) (sets sets' : ℕ) (counts counts' : List ℕ) → Keeps lines sets counts → kind_of_fault lines l ≡ None → length counts' ≡ 64
    → sets' ≡ sets + length (sets_of (l ∷ [])) → ((c : ℕ) → c < 64 → slice_index counts' c ≡ slice_index counts c + length (asked_of c (l ∷ []))) → Keeps (lines ++ l ∷ []) sets' counts'
keeps_with lines l sets sets' counts counts' k none wide s cs = record {
  wide = wide;
  is_script = script_more lines l k.is_script none;
  callers = terms_more lines l none k.callers;
  sets_are = omega (arith, s, k.sets_are, sets_more lines l);
  counts_are = λ c lt. omega (arith, cs c lt, k.counts_are c lt, asked_more c lines l);
}

-- with a set, a call, or another line
pub keeps_set : (lines : List ShardLine) (l : ShardLine) (ns : List ℕ) (sets : ℕ) (counts : List ℕ) → l ≡ line.Set ns → Keeps lines sets counts → kind_of_fault lines l ≡ None → Keeps (lines ++ l ∷ []) (sets + 1) counts
keeps_set lines l ns sets counts is k none =
    subst (λ (m : ShardLine). kind_of_fault lines m ≡ None → Keeps (lines ++ m ∷ []) (sets + 1) counts) (sym is)
    (λ n. keeps_with lines (line.Set ns) sets (sets + 1) counts counts k n k.wide refl (λ c lt. omega arith)) none

pub keeps_other : (lines : List ShardLine) (l : ShardLine) (sets : ℕ) (counts : List ℕ) → length (sets_of (l ∷ [])) ≡ 0 → ((c : ℕ) → length (asked_of c (l ∷ [])) ≡ 0) → Keeps lines sets counts → kind_of_fault lines l ≡ None
    → Keeps (lines ++ l ∷ []) sets counts
keeps_other lines l sets counts no_set no_call k none = keeps_with lines l sets sets counts counts k none k.wide (omega (arith, no_set)) (λ c lt. omega (arith, no_call c))

counted : (counts : List ℕ) (caller c : ℕ) → caller < length counts → (n : ℕ) → (b : Bool) → (caller == c) ≡ b → (b ≡ true → n ≡ 1) → (b ≡ false → n ≡ 0)
    → slice_index (slice_set counts caller (slice_index counts caller + 1)) c ≡ slice_index counts c + n
counted counts caller c lt n true e one none =
    let same : caller ≡ c = eqb-true caller c e in
    subst (λ d. slice_index (slice_set counts caller (slice_index counts caller + 1)) d ≡ slice_index counts d + n) same
    (get_or-set_same counts caller (slice_index counts caller + 1) 0 lt ∙ omega (arith, one refl))
counted counts caller c lt n false e one none =
    get_or-set_other counts caller c (slice_index counts caller + 1) 0 (λ same. absurd (cc (eq-eqb caller c (sym same), e))) ∙ omega (arith, none refl)

claims_one : (caller set c : ℕ) (b : Bool) → (caller == c) ≡ b → length (asked_of c (line.Claim caller set ∷ [])) ≡ (if b then 1 else 0)
claims_one caller set c true e = rw e refl
claims_one caller set c false e = rw e refl

frees_one : (caller call c : ℕ) (b : Bool) → (caller == c) ≡ b → length (asked_of c (line.Free caller call ∷ [])) ≡ (if b then 1 else 0)
frees_one caller call c true e = rw e refl
frees_one caller call c false e = rw e refl

call_low : (before : List ShardLine) (caller : ℕ) (b : Bool) → (let t = terms_of before in unless_fits kind.Call (nat_lt caller t.callers && b) ≡ None) → (let t = terms_of before in t.callers ≤ 64) → caller < 64
call_low before caller b none low =
    let t = terms_of before in
    let lt : caller < t.callers = ltb-true caller t.callers ((and_parts (nat_lt caller t.callers) b (unless_none kind.Call (nat_lt caller t.callers && b) none)).0) in
    omega (arith, lt, low)

pub claim_low : (lines : List ShardLine) (caller set : ℕ) → kind_of_fault lines (line.Claim caller set) ≡ None → (let t = terms_of lines in t.callers ≤ 64) → caller < 64
claim_low lines caller set none low = call_low lines caller _ ((order_of lines (line.Claim caller set) none).1) low

pub free_low : (lines : List ShardLine) (caller call : ℕ) → kind_of_fault lines (line.Free caller call) ≡ None → (let t = terms_of lines in t.callers ≤ 64) → caller < 64
free_low lines caller call none low = call_low lines caller _ ((order_of lines (line.Free caller call) none).1) low

pub keeps_claim : (lines : List ShardLine) (l : ShardLine) (caller set sets : ℕ) (counts : List ℕ) → l ≡ line.Claim caller set → Keeps lines sets counts → kind_of_fault lines l ≡ None
    → Keeps (lines ++ l ∷ []) sets (slice_set counts caller (slice_index counts caller + 1))
keeps_claim lines l caller set sets counts is k none =
    subst (λ (m : ShardLine). kind_of_fault lines m ≡ None → Keeps (lines ++ m ∷ []) sets (slice_set counts caller (slice_index counts caller + 1))) (sym is)
    (λ n. keeps_with lines (line.Claim caller set) sets sets counts _ k n (length-set counts caller _ ∙ k.wide) (omega arith)
    (λ c small. counted counts caller c (omega (arith, claim_low lines caller set n k.callers, k.wide)) _ (caller == c) refl (λ e. claims_one caller set c true e) (λ e. claims_one caller set c false e)))
    none

pub keeps_free : (lines : List ShardLine) (l : ShardLine) (caller call sets : ℕ) (counts : List ℕ) → l ≡ line.Free caller call → Keeps lines sets counts → kind_of_fault lines l ≡ None
    → Keeps (lines ++ l ∷ []) sets (slice_set counts caller (slice_index counts caller + 1))
keeps_free lines l caller call sets counts is k none =
    subst (λ (m : ShardLine). kind_of_fault lines m ≡ None → Keeps (lines ++ m ∷ []) sets (slice_set counts caller (slice_index counts caller + 1))) (sym is)
    (λ n. keeps_with lines (line.Free caller call) sets sets counts _ k n (length-set counts caller _ ∙ k.wide) (omega arith)
    (λ c small. counted counts caller c (omega (arith, free_low lines caller call n k.callers, k.wide)) _ (caller == c) refl (λ e. frees_one caller call c true e) (λ e. frees_one caller call c false e)))
    none

-- a line that was not found to be at fault
pub not_at_fault : (now items : List ShardLine) (l : ShardLine) (o : Option ClaimKind) → now ≡ items → o ≡ kind_of_fault now l → ((x : ClaimKind) → o ≡ Some x → ⊥) → kind_of_fault items l ≡ None
not_at_fault now items l o view fault none = ap (λ ls. kind_of_fault ls l) (sym view) ∙ (sym fault ∙ not_some o none)

none_yet : Keeps [] 0 (replicate 64 0)
none_yet = record {
  wide = refl;
  is_script = record { each = λ k m e. absurd (none_some m e) };
  callers = omega arith;
  sets_are = refl;
  counts_are = λ c lt. get_or-replicate 64 c 0 0 lt;
}

pub keeps_new : (items : List ShardLine) (counts : List ℕ) → items ≡ [] → counts ≡ replicate 64 0 → Keeps items 0 counts
keeps_new items counts empty zeros = subst (λ ls. Keeps ls 0 counts) (sym empty) (subst (λ cs. Keeps [] 0 cs) (sym zeros) none_yet)
