-- A caller's lines are found by their marks.
use Rattle.std.proofs.Common.{◌≡◌, ◌≢◌, ℕ, zero, suc, ◌+◌, ◌-◌, ◌<◌, ◌≤◌, ◌==◌, Bool, true, false, List, [], ◌∷◌, ◌++◌, length, map, take, get_or, Option, Some, None, refl, sym, ap, ◌∙◌, subst, arith}
use Rattle.std.specs.Prelude.{min, drop, MatchOption}
use Rattle.std.specs.List.{AllWithin}
use Rattle.std.proofs.lemmas.Bool.{eqb-true, eq-eqb}
use Rattle.memchr.specs.Find.{IsFirstByte, is_byte}
use Rattle.std.proofs.lemmas.List.{append-nil, get_or-drop, get_or-map, get_or_default, length-drop, length-map, map_push, take_all, take_more}
use Rattle.std.proofs.lemmas.List.Elements.{filter_map-append}
use Rattle.aim_shards_command.specs.declared.lines.ShardLine.{ShardLine}
use Rattle.aim_shards_command.specs.declared.lines.ShardLine.TheVariants as line
use Rattle.aim_shards_command.specs.Said.{ask_in, asked_of}
use Rattle.aim_shards.specs.declared.claims.ClaimEntry.{ClaimEntry}
use Rattle.aim_shards_command.specs.Calling.{mark_in}
use Rattle.aim_shards_command.specs.Following.{Follows}
use Rattle.aim_shards_command.proofs.Calls.{asked_one}

-- a line with another mark asks nothing of the caller
other_mark : (n : ℕ) (l : ShardLine) → mark_in l ≢ min n 255 → ask_in n l ≡ None
other_mark n (line.Shards m horizon callers) ne = refl
other_mark n (line.Set ns) ne = refl
other_mark n line.End ne = refl
other_mark n (line.Claim caller set) ne = at (caller == n) refl
  where
    at : (b : Bool) → (caller == n) ≡ b → ask_in n (line.Claim caller set) ≡ None
    at true eq = absurd (ne (ap (λ c. min c 255) (eqb-true caller n eq)))
    at false eq = rw eq refl
other_mark n (line.Free caller call) ne = at (caller == n) refl
  where
    at : (b : Bool) → (caller == n) ≡ b → ask_in n (line.Free caller call) ≡ None
    at true eq = absurd (ne (ap (λ c. min c 255) (eqb-true caller n eq)))
    at false eq = rw eq refl

-- lines that ask nothing of the caller
skipped : (n : ℕ) (lines : List ShardLine) (from count : ℕ) (d : ShardLine) → from + count ≤ length lines → ((k : ℕ) → from ≤ k → k < from + count → ask_in n (get_or lines k d) ≡ None) → asked_of n (take (from + count) lines) ≡ asked_of n (take from lines)
skipped n lines from zero d le none = let same : from + 0 ≡ from = omega arith in ap (λ k. asked_of n (take k lines)) same
skipped n lines from (suc count) d le none =
    let same : from + suc count ≡ (from + count) + 1 = omega arith in
    let lt : from + count < length lines = omega (arith, le) in
    let before = asked_of n (take (from + count) lines) in
    ap (λ k. asked_of n (take k lines)) same
    ∙ (ap (asked_of n) (take_more lines (from + count) d lt)
    ∙ (filter_map-append (ask_in n) (take (from + count) lines) (get_or lines (from + count) d ∷ [])
    ∙ (ap (λ more. before ++ more) (asked_one n (get_or lines (from + count) d) None (none (from + count) (omega arith) (omega arith)))
    ∙ (append-nil before
    ∙ skipped n lines from count d (omega (arith, le)) (λ k a b. none k a (omega (arith, b)))))))

-- lines that have other marks
pub passed_over : (n : ℕ) (lines : List ShardLine) (marks : List ℕ) (from next : ℕ) → marks ≡ map mark_in lines → from ≤ next → next ≤ length lines → AllWithin (λ m. m ≢ min n 255) marks from next → asked_of n (take next lines) ≡ asked_of n (take from lines)
passed_over n lines marks from next are le within none =
    let same : from + (next - from) ≡ next = omega (arith, le) in
    let other : (k : ℕ) → from ≤ k → k < from + (next - from) → ask_in n (get_or lines k line.End) ≡ None =
    λ k a b.
    let high : k < length lines = omega (arith, b, same, within) in
    other_mark n (get_or lines k line.End) (λ e. none k 255 a (omega (arith, b, same)) (ap (λ l. get_or l k 255) are ∙ get_or-map mark_in lines k line.End 255 high ∙ e)) in
    ap (λ k. asked_of n (take k lines)) (sym same) ∙ skipped n lines from (next - from) line.End (omega (arith, within, le, same)) other

-- what the caller did, up to there
pub follows_over : (n : ℕ) (lines : List ShardLine) (marks : List ℕ) (from next : ℕ) (mine : List ClaimEntry) → marks ≡ map mark_in lines → from ≤ next → next ≤ length marks → AllWithin (λ m. m ≢ min n 255) marks from next → Follows (asked_of n (take from lines)) mine → Follows (asked_of n (take next lines)) mine
follows_over n lines marks from next mine are le within none f =
    let count : length marks ≡ length lines = ap length are ∙ length-map lines mark_in in
    subst (λ asks. Follows asks mine) (sym (passed_over n lines marks from next are le (omega (arith, count, within)) none)) f

pub as_long : (lines : List ShardLine) (marks : List ℕ) → marks ≡ map mark_in lines → length marks ≡ length lines
as_long lines marks are = ap length are ∙ length-map lines mark_in

-- the first byte of the caller's from that place on, if it is there
first_mark : (marks : List ℕ) (from byte number : ℕ) (r : Option ℕ) → byte ≡ min number 255 → IsFirstByte (is_byte byte) (drop from marks) r
    → MatchOption r (AllWithin (λ m. m ≢ min number 255) marks from (length marks)) (λ at. AllWithin (λ m. m ≢ min number 255) marks from (from + at))
first_mark marks from byte number None is none = λ k d a b eq.
    let count = length-drop from marks in
    let same : from + (k - from) ≡ k = omega (arith, a) in
    none (k - from) (omega arith) (omega (arith, count, a, b))
    (eq-eqb (get_or (drop from marks) (k - from) 0) byte (get_or-drop from marks (k - from) 0 ∙ (ap (λ j. get_or marks j 0) same ∙ (get_or_default marks k 0 d b ∙ (eq ∙ sym is)))))
first_mark marks from byte number (Some at) is first = λ k d a b eq.
    let count = length-drop from marks in
    let high : at < length (drop from marks) = first.0.high in
    let same : from + (k - from) ≡ k = omega (arith, a) in
    let lt : k < length marks = omega (arith, count, high, a, b) in
    first.0.before (k - from) (omega arith) (omega (arith, a, b))
    (eq-eqb (get_or (drop from marks) (k - from) 0) byte (get_or-drop from marks (k - from) 0 ∙ (ap (λ j. get_or marks j 0) same ∙ (get_or_default marks k 0 d lt ∙ (eq ∙ sym is)))))

-- the bytes from that place on, up to the end
pub first_mark_in : (marks : List ℕ) (from byte number : ℕ) (r : Option ℕ) → byte ≡ min number 255 → IsFirstByte (is_byte byte) (take (length marks - from) (drop from marks)) r
    → MatchOption r (AllWithin (λ m. m ≢ min number 255) marks from (length marks)) (λ at. AllWithin (λ m. m ≢ min number 255) marks from (from + at))
first_mark_in marks from byte number r is first =
    let count = length-drop from marks in
    let whole : take (length marks - from) (drop from marks) ≡ drop from marks = take_all (length marks - from) (drop from marks) (omega (arith, count)) in
    first_mark marks from byte number r is (subst (λ l. IsFirstByte (is_byte byte) l r) whole first)

-- one line more
pub marks_more : (lines : List ShardLine) (i : ℕ) (d : ShardLine) (marks more : List ℕ) (mark : ℕ) → i < length lines → marks ≡ map mark_in (take i lines) → more ≡ marks ++ mark ∷ [] → mark ≡ mark_in (get_or lines i d) → more ≡ map mark_in (take (i + 1) lines)
marks_more lines i d marks more mark lt are is own =
    is ∙ (ap (λ l. l ++ mark ∷ []) are ∙ (ap (λ m. map mark_in (take i lines) ++ m ∷ []) own
    ∙ (sym (map_push mark_in (take i lines) (get_or lines i d)) ∙ ap (map mark_in) (sym (take_more lines i d lt)))))
