-- What a run of a script gives.
use Rattle.std.proofs.Common.{◌≡◌, ◌≢◌, ℕ, zero, suc, ◌+◌, ◌<◌, ◌≤◌, List, [], ◌∷◌, ◌++◌, length, map, refl, sym, ap, ◌∙◌, subst, arith, Ok, Err, Result}
use Rattle.std.specs.Prelude.{All, IfOk, get_or}
use Rattle.std.proofs.lemmas.Bool.{eq-eqb, ne_eqb}
use Rattle.std.proofs.lemmas.List.{length-map}
use Rattle.std.proofs.lemmas.List.Elements.{All-map}
use mathlib.Core.Logic.{dite}
use native.Mathlib.Decide.{ℕ_discrete}
use Rattle.aim_sheets.specs.Sheets.{Spans}
use Rattle.aim_shards.specs.declared.claims.ClaimEntry.{ClaimEntry}
use Rattle.aim_shards.specs.Claims.{entries_of}
use Rattle.aim_shards.specs.Closing.{AreMade}
use Rattle.aim_shards.specs.Fitting.{AreSheets}
use Rattle.aim_shards.specs.History.{IsHistory}
use Rattle.aim_shards.specs.Models.{PassModel, ShardsModel, count_up, new_pass}
use Rattle.aim_shards.specs.Sums.{is, total}
use Rattle.aim_shards.specs.declared.opening.OpenedShards.{OpenedShards}
use Rattle.aim_shards_command.specs.declared.script.ClaimTerms.{ClaimTerms}
use Rattle.aim_shards_command.specs.declared.lines.ShardLine.{ShardLine}
use Rattle.aim_shards_command.specs.Said.{asked_of, sets_of, terms_of}
use Rattle.aim_shards_command.specs.Following.{Follows}
use Rattle.aim_shards_command.specs.Running.{AreSheetsOf, HasDone, IsNew, IsOpened, IsRun}

is_same : (c m : ℕ) → m ≡ c → is c m ≡ 1
is_same c m e = rw (eq-eqb m c e) refl

is_other : (c m : ℕ) → m ≢ c → is c m ≡ 0
is_other c m ne = rw (ne_eqb m c ne) refl

total-append : {A : Type 0} (f : A → ℕ) (xs ys : List A) → total f (xs ++ ys) ≡ total f xs + total f ys
total-append f [] ys = omega arith
total-append f (x ∷ xs) ys = omega (arith, total-append f xs ys)

some_number : (c n : ℕ) → c < n → 1 ≤ total (is c) (count_up n)
some_number c zero lt = absurd (omega arith)
some_number c (suc n) lt =
    let t = total-append (is c) (count_up n) (n ∷ []) in
    dite (ℕ_discrete n c) (λ e. omega (arith, t, is_same c n e)) (λ ne. omega (arith, t, some_number c n (omega (arith, lt, ne))))

no_number : (c n : ℕ) → n ≤ c → total (is c) (count_up n) ≡ 0
no_number c zero le = refl
no_number c (suc n) le = omega (arith, total-append (is c) (count_up n) (n ∷ []), is_other c n (λ e. omega (arith, le, e)), no_number c n (omega (arith, le)))

-- a pass with the number, and its place
record Found (c : ℕ) (ps : List PassModel) : Type 0 where
  place : ℕ
  there : place < length ps
  number : (d : PassModel) → (let p = get_or ps place d in p.number ≡ c)

find_number : (c : ℕ) (ps : List PassModel) → 1 ≤ total (λ p. is c p.number) ps → Found c ps
find_number c [] some = absurd (omega arith)
find_number c (p ∷ ps) some =
    dite (ℕ_discrete p.number c) (λ e. record { place = 0; there = omega arith; number = λ d. e })
    (λ ne. later (find_number c ps (omega (arith, some, is_other c p.number ne))))
  where
    later : Found c ps → Found c (p ∷ ps)
    later f = record { place = suc f.place; there = omega (arith, f.there); number = f.number }

acts_of : (lines : List ShardLine) (s : ShardsModel) (callers : ℕ) (ps : List PassModel) (log : List ClaimEntry) → AreMade s.numbers ps log → s.numbers ≡ count_up callers → All (HasDone s lines) ps → (c : ℕ) → c < callers → Follows (asked_of c lines) (entries_of c log)
acts_of lines s callers ps log made numbers done c lt =
    let some : 1 ≤ total (is c) s.numbers = subst (λ ns. 1 ≤ total (is c) ns) (sym numbers) (some_number c callers lt) in
    let f = find_number c ps (omega (arith, some, made.places (is c))) in
    let d = new_pass s 0 in
    let p = get_or ps f.place d in
    let h = done f.place d f.there in
    let mine : entries_of p.number log ≡ p.mine = made.passes f.place d f.there in
    let follows : Follows (asked_of p.number lines) (entries_of p.number log) = subst (λ es. Follows (asked_of p.number lines) es) (sym mine) h.follows in
    subst (λ n. Follows (asked_of n lines) (entries_of n log)) (f.number d) follows

pub run_is : (lines : List ShardLine) (s : ShardsModel) (sheets : List Spans) (ps : List PassModel) (log : List ClaimEntry) → s.sets ≡ sheets → (let t = terms_of lines in AreSheets t.n t.horizon (sets_of lines) sheets) → (let t = terms_of lines in s.numbers ≡ count_up t.callers)
    → All (HasDone s lines) ps → IsHistory s.sets log → AreMade s.numbers ps log → IsRun lines log
run_is lines s sheets ps log sets are numbers done history made = record {
  sets = sheets;
  are = are;
  history = subst (λ ss. IsHistory ss log) sets history;
  acts = λ c lt. (let t = terms_of lines in acts_of lines s t.callers ps log made numbers done c lt);
  others = λ c le. (let t = terms_of lines in made.others c (ap (λ ns. total (is c) ns) numbers ∙ no_number c t.callers le));
}

-- the passes of an opening are new
pub all_new : (s : ShardsModel) (ps : List PassModel) (callers : ℕ) → s.calls ≡ 1024 → ps ≡ map (new_pass s) (count_up callers) → All (IsNew s) ps
all_new s ps callers calls e =
    subst (λ qs. All (IsNew s) qs) (sym e) (All-map (IsNew s) (new_pass s) (count_up callers) (λ k d lt. record { own = record { table = refl; calls = refl; quarters = refl }; calls = calls; none = refl }))

pub if_ok : {A E : Type 0} (P Q R : A → Type 0) (r : Result A E) → IfOk r P → IfOk r Q → ((a : A) → P a → Q a → R a) → IfOk r R
if_ok P Q R (Ok a) p q f = f a p q
if_ok P Q R (Err e) p q f = tt

-- what opening shards over the sheets of a script gives
pub opened_is : (lines : List ShardLine) (t : ClaimTerms) (sheets : List Spans) (o : OpenedShards) → t ≡ terms_of lines → AreSheetsOf (terms_of lines) (sets_of lines) sheets → o.shards.size ≡ t.n → o.shards.sets ≡ sheets
    → o.shards.numbers ≡ count_up t.callers → o.shards.calls ≡ 1024 → o.passes.items ≡ map (new_pass o.shards) (count_up t.callers) → IsOpened lines o
opened_is lines t sheets o e are size sets numbers calls passes = record {
  sheets = subst (λ ss. AreSheetsOf (terms_of lines) (sets_of lines) ss) (sym sets) are;
  size = size ∙ ap (λ (u : ClaimTerms). u.n) e;
  numbers = numbers ∙ ap (λ (u : ClaimTerms). count_up u.callers) e;
  calls = calls;
  passes = passes ∙ ap (λ (u : ClaimTerms). map (new_pass o.shards) (count_up u.callers)) e;
}

-- there is a pass for each number
pub as_many : (lines : List ShardLine) (o : OpenedShards) → IsOpened lines o → length o.passes.items ≡ length o.shards.numbers
as_many lines o is = (let t = terms_of lines in ap length is.passes ∙ length-map (count_up t.callers) (new_pass o.shards) ∙ ap length (sym is.numbers))

-- the callers of an opening have made their calls
pub run_opened : (lines told : List ShardLine) (o : OpenedShards) (ps : List PassModel) (log : List ClaimEntry) → told ≡ lines → IsOpened lines o → All (HasDone o.shards told) ps → IsHistory o.shards.sets log
    → AreMade o.shards.numbers ps log → IsRun lines log
run_opened lines told o ps log e is done history made =
    run_is lines o.shards o.shards.sets ps log refl is.sheets is.numbers (subst (λ ls. All (HasDone o.shards ls) ps) e done) history made
