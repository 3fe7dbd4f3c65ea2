-- Bytes that are taken one by one, and the line that they make.
use Rattle.std.proofs.Common.{◌≡◌, ◌≢◌, ◌⊎◌, inl, inr, ℕ, ◌+◌, ◌<◌, ◌≤◌, List, [], ◌∷◌, ◌++◌, length, take, get_or, false, nat_lt, Option, None, Some, refl, sym, ap, ◌∙◌, subst, arith, append_assoc, append-nil}
use Rattle.std.specs.Prelude.{IfSome}
use Rattle.std.proofs.KnownBytes.{Consumes-kept, Consumes-nil, Consumes-trans, prepend_known-nil}
use Rattle.std.proofs.lemmas.Bool.{eqb-true, ltb-false}
use Rattle.std.proofs.lemmas.List.{length-append, length-take, take_all, take-append-le}
use Rattle.std.proofs.lemmas.List.Elements.{All-from_recursion}
use Rattle.std.specs.Io.KnownBytes.{Consumes, IsAtEnd, Keeps, prepend_known}
use Rattle.memchr.specs.Find.{IsFirstByte, is_byte}
use Rattle.aim_io.specs.Causes.{Rose}
use Rattle.aim_io.specs.Lines.{HasNoEnd}
use Rattle.aim_session_command.specs.Reading.{NeedsRead, ReadsPiece, TakesLine, TakesPart}

-- a count that has risen since a later time
pub rose_behind : (before now later : ℕ) → before ≤ now → Rose now later → Rose before later
rose_behind before now later up rose = grind arith

-- the first bytes of a line, with one byte more
pub kept_more : (all kept : List ℕ) (b : ℕ) → length kept < 401 → kept ≡ take 401 all → kept ++ b ∷ [] ≡ take 401 (all ++ b ∷ [])
kept_more all kept b room is =
    let few : length all < 401 = omega (arith, room, ap (λ (l : List ℕ). length l) is, length-take 401 all) in
    ap (λ (l : List ℕ). l ++ b ∷ []) (is ∙ take_all 401 all (omega (arith, few))) ∙ sym (take_all 401 (all ++ b ∷ []) (omega (arith, few, length-append all (b ∷ []))))

pub kept_full : (all kept : List ℕ) (b : ℕ) → 401 ≤ length kept → kept ≡ take 401 all → kept ≡ take 401 (all ++ b ∷ [])
kept_full all kept b full is =
    let many : 401 ≤ length all = omega (arith, full, ap (λ (l : List ℕ). length l) is, length-take 401 all) in
    is ∙ sym (take-append-le 401 all (b ∷ []) many)

-- What was taken of a line: a part, of so many bytes, of which the first are kept. Of what was held before, the part is a front, or no line ends in it.
pub record Taking {S : Type 0} (left : S → Option (List ℕ)) (last : S → Option ℕ) (faults : S → ℕ) (first now : S) (held_first held kept : List ℕ) (count : ℕ) : Type 0 where
  pub part : List ℕ
  pub size : length part ≡ count
  pub is : kept ≡ take 401 part
  pub no_end : HasNoEnd part
  pub gone : Consumes (prepend_known held_first (left first)) (prepend_known held (left now)) part
  pub rest : (held_first ≡ part ++ held) ⊎ HasNoEnd held_first
  pub needed : (now ≡ first) ⊎ NeedsRead (prepend_known held_first (left first)) (left now) (last now)
  pub later : faults first ≤ faults now

-- what a byte comes from: it was held, which H says, or a piece was read where nothing was
abbrev pub ComesFrom : {S : Type 0} → (S → Option (List ℕ)) → (S → Option ℕ) → S → S → List ℕ → Type 0 → Type 0
ComesFrom left last old new held H = ((new ≡ old) × H) ⊎ ((held ≡ []) × ReadsPiece (left old) (left new) (last new))

pub taking_start : {S : Type 0} (left : S → Option (List ℕ)) (last : S → Option ℕ) (faults : S → ℕ) (first : S) (held kept : List ℕ) → kept ≡ [] → Taking left last faults first first held held kept 0
taking_start left last faults first held kept none = record {
  part = [];
  size = refl;
  is = none;
  no_end = tt;
  gone = Consumes-nil (prepend_known held (left first));
  rest = inl refl;
  needed = inl refl;
  later = omega arith;
}

no_end_more : (part : List ℕ) (b : ℕ) → HasNoEnd part → b ≢ 10 → HasNoEnd (part ++ b ∷ [])
no_end_more [] b none other = (other, tt)
no_end_more (x ∷ part) b none other = (none.0, no_end_more part b none.1 other)

consumes_none : (before now after : Option (List ℕ)) (part : List ℕ) → Consumes before now part → Consumes now after [] → Consumes before after part
consumes_none None now after part first none = tt
consumes_none (Some x) None after part first none = absurd first
consumes_none (Some x) (Some y) None part first none = absurd none
consumes_none (Some x) (Some y) (Some z) part first none = first ∙ ap (λ (l : List ℕ). part ++ l) none

no_bytes : (part : List ℕ) → length part ≡ 0 → part ≡ []
no_bytes [] none = refl
no_bytes (b ∷ part) none = absurd (omega (arith, none))

-- the next byte is asked for
module _ {S : Type 0} (left : S → Option (List ℕ)) (last : S → Option ℕ) (faults : S → ℕ) (first now after : S) (held_first held kept : List ℕ) (count : ℕ)
    (t : Taking left last faults first now held_first held kept count) where
  -- a read was needed
  pub needed_then : {H : Type 0} → ComesFrom left last now after held H → (after ≡ first) ⊎ NeedsRead (prepend_known held_first (left first)) (left after) (last after)
  needed_then (inl (same, was)) = subst (λ (s : S). (s ≡ first) ⊎ NeedsRead (prepend_known held_first (left first)) (left s) (last s)) (sym same) t.needed
  needed_then (inr (none, read)) =
      let emptied : prepend_known held (left now) ≡ left now = ap (λ (h : List ℕ). prepend_known h (left now)) none ∙ prepend_known-nil (left now) in
      let piece : Consumes (prepend_known held (left now)) (left after) read.piece = subst (λ (k : Option (List ℕ)). Consumes k (left after) read.piece) (sym emptied) read.taken in
      inr (record {
        part = t.part;
        piece = read.piece;
        no_end = t.no_end;
        taken = Consumes-trans (prepend_known held_first (left first)) (prepend_known held (left now)) (left after) t.part read.piece t.gone piece;
        told = read.told;
      })

  -- all that was held is gone
  held_open : held ≡ [] → HasNoEnd held_first
  held_open none = go t.rest
    where
      go : (held_first ≡ t.part ++ held) ⊎ HasNoEnd held_first → HasNoEnd held_first
      go (inl is) = subst (λ (l : List ℕ). HasNoEnd l) (sym (is ∙ ap (λ (h : List ℕ). t.part ++ h) none ∙ append-nil t.part)) t.no_end
      go (inr none_ends) = none_ends

  -- the byte 10 isn't there
  pub read_on : ComesFrom left last now after held ⊥ → HasNoEnd held_first
  read_on (inl (same, was)) = absurd was
  read_on (inr (none, read)) = held_open none

  rest_then : (held_after : List ℕ) (b : ℕ) → ComesFrom left last now after held (held ≡ b ∷ held_after) → (held_first ≡ (t.part ++ b ∷ []) ++ held_after) ⊎ HasNoEnd held_first
  rest_then held_after b (inl (same, was)) = go t.rest
    where
      go : (held_first ≡ t.part ++ held) ⊎ HasNoEnd held_first → (held_first ≡ (t.part ++ b ∷ []) ++ held_after) ⊎ HasNoEnd held_first
      go (inl is) = inl (is ∙ ap (λ (h : List ℕ). t.part ++ h) was ∙ sym (append_assoc t.part (b ∷ []) held_after))
      go (inr none_ends) = inr none_ends
  rest_then held_after b (inr (none, read)) = inr (held_open none)

  pub taking_more : (held_after new : List ℕ) (b : ℕ) → Consumes (prepend_known held (left now)) (prepend_known held_after (left after)) (b ∷ []) → ComesFrom left last now after held (held ≡ b ∷ held_after) → b ≢ 10 → faults now ≤ faults after
      → ((all : List ℕ) → kept ≡ take 401 all → new ≡ take 401 (all ++ b ∷ [])) → Taking left last faults first after held_first held_after new (count + 1)
  taking_more held_after new b gone from other up more = record {
    part = t.part ++ b ∷ [];
    size = omega (arith, t.size, length-append t.part (b ∷ []));
    is = more t.part t.is;
    no_end = no_end_more t.part b t.no_end other;
    gone = Consumes-trans (prepend_known held_first (left first)) (prepend_known held (left now)) (prepend_known held_after (left after)) t.part (b ∷ []) t.gone gone;
    rest = rest_then held_after b from;
    needed = needed_then from;
    later = omega (arith, t.later, up);
  }

  -- the byte 10 was taken
  pub takes_line : (held_after : List ℕ) → Consumes (prepend_known held (left now)) (prepend_known held_after (left after)) (10 ∷ [])
      → (x : TakesLine (prepend_known held_first (left first)) (prepend_known held_after (left after)) kept) × Consumes (prepend_known held_first (left first)) (prepend_known held_after (left after)) (x.line ++ 10 ∷ [])
  takes_line held_after gone =
      let all = Consumes-trans (prepend_known held_first (left first)) (prepend_known held (left now)) (prepend_known held_after (left after)) t.part (10 ∷ []) t.gone gone in
      (record { line = t.part; is = t.is; no_end = t.no_end; taken = inl all }, all)

  -- the input ended
  pub takes_last : (held_after : List ℕ) → Consumes (prepend_known held (left now)) (prepend_known held_after (left after)) [] → IsAtEnd (prepend_known held_after (left after)) → 0 < count
      → TakesLine (prepend_known held_first (left first)) (prepend_known held_after (left after)) kept
  takes_last held_after none end some = record {
    line = t.part;
    is = t.is;
    no_end = t.no_end;
    taken = inr (consumes_none (prepend_known held_first (left first)) (prepend_known held (left now)) (prepend_known held_after (left after)) t.part t.gone none, end, omega (arith, some, t.size));
  }

  pub takes_nothing : (held_after : List ℕ) → Consumes (prepend_known held (left now)) (prepend_known held_after (left after)) [] → count ≡ 0 → Consumes (prepend_known held_first (left first)) (prepend_known held_after (left after)) []
  takes_nothing held_after none zero =
      subst (λ (l : List ℕ). Consumes (prepend_known held_first (left first)) (prepend_known held_after (left after)) l) (no_bytes t.part (omega (arith, t.size, zero)))
      (consumes_none (prepend_known held_first (left first)) (prepend_known held (left now)) (prepend_known held_after (left after)) t.part t.gone none)

  -- the source has failed
  pub takes_part : (held_after : List ℕ) → Consumes (prepend_known held (left now)) (prepend_known held_after (left after)) [] → TakesPart (prepend_known held_first (left first)) (prepend_known held_after (left after)) t.part
  takes_part held_after none = record { no_end = t.no_end; taken = consumes_none (prepend_known held_first (left first)) (prepend_known held (left now)) (prepend_known held_after (left after)) t.part t.gone none }

-- ---- a byte, and a piece that was read

-- a byte of the bytes that are held
pub byte_taken : (held rest : List ℕ) (left : Option (List ℕ)) (b : ℕ) → held ≡ b ∷ rest → Consumes (prepend_known held left) (prepend_known rest left) (b ∷ [])
byte_taken held rest None b is = tt
byte_taken held rest (Some more) b is = ap (λ (l : List ℕ). l ++ more) is

if_told : (last : Option ℕ) (n m : ℕ) → n ≡ m → IfSome last (λ x. x ≡ n) → IfSome last (λ x. x ≡ m)
if_told None n m same told = tt
if_told (Some x) n m same told = told ∙ same

-- a read gave so many bytes
pub piece_read : (left_old left_new : Option (List ℕ)) (last : Option ℕ) (bytes : List ℕ) (n : ℕ) → n ≤ length bytes → Consumes left_old left_new (take n bytes) → IfSome last (λ x. x ≡ n) → ReadsPiece left_old left_new last
piece_read left_old left_new last bytes n fits gone told = record { piece = take n bytes; taken = gone; told = if_told last n (length (take n bytes)) (omega (arith, fits, length-take n bytes)) told }

-- a read has failed
pub nothing_read : (left_old left_new : Option (List ℕ)) (last : Option ℕ) → Keeps left_old left_new → IfSome last (λ x. x ≡ 0) → ReadsPiece left_old left_new last
nothing_read left_old left_new last kept told = record { piece = []; taken = Consumes-kept left_old left_old left_new [] (Consumes-nil left_old) kept; told = told }

-- where the byte 10 stands, a line ends
pub has_end : (bytes : List ℕ) (at : ℕ) → IsFirstByte (is_byte 10) bytes (Some at) → HasNoEnd bytes → ⊥
has_end bytes at first none = All-from_recursion (λ (b : ℕ). b ≢ 10) bytes none at 0 first.0.high (eqb-true (get_or bytes at 0) 10 first.1)

-- none is held
pub nothing_held : (held : List ℕ) → false ≡ nat_lt 0 (length held) → held ≡ []
nothing_held held is = no_bytes held (let least = ltb-false 0 (length held) (sym is) in omega (arith, least))
