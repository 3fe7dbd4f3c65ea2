-- Two keys are the same exactly where their words are.
use Rattle.std.proofs.Common.{◌≡◌, ℕ, ◌-◌, ◌==◌, Bool, true, false, ◌&&◌, nat_eq, List, [], ◌∷◌, ◌++◌, length, map, replicate, Decides, refl, sym, ap, ◌∙◌, arith}
use Rattle.std.proofs.lemmas.List.{take-append-drop, length-take, length-map}
use Rattle.std.proofs.lemmas.Bool.{eqb-true, eq-eqb}
use Rattle.std.proofs.lemmas.Bool.Decides.{same_from_decides}
use Rattle.std.proofs.lemmas.Slice.Eq.{bytes_eq-Decides}
use Rattle.std.specs.Prelude.{bytes_eq, position}
use Rattle.std.specs.List.{list_any, position_or_len}
use Rattle.std.specs.Cmp.Lexicographic.{pointwise}
use Rattle.aim_script.specs.declared.names.Key.{Key}
use Rattle.aim_script.specs.Names.{key_word, IsPadded, ArePadded}

abbrev pub same_key : Key → Key → Bool
same_key a b = pointwise nat_eq a.bytes b.bytes && (a.len == b.len)

and_parts : (a b : Bool) → (a && b) ≡ true → (a ≡ true) × (b ≡ true)
and_parts true b is = (refl, is)
and_parts false b is = absurd (cc)

-- all bytes of a key are those of its word and zeros
whole : (k : Key) → IsPadded k → k.bytes ≡ key_word k ++ replicate (16 - k.len) 0
whole k p = sym (take-append-drop k.len k.bytes) ∙ ap (λ (xs : List ℕ). key_word k ++ xs) p.rest

word_length : (k : Key) → IsPadded k → length (key_word k) ≡ k.len
word_length k p = let most = p.most in let long = p.long in omega (arith, length-take k.len k.bytes)

key_decides : (a b : Key) → IsPadded a → IsPadded b → Decides (same_key a b) (key_word a ≡ key_word b)
key_decides a b p q = (found, same)
  where
    found : same_key a b ≡ true → key_word a ≡ key_word b
    found is =
        let parts = and_parts (pointwise nat_eq a.bytes b.bytes) (a.len == b.len) is in
        let bytes : a.bytes ≡ b.bytes = (bytes_eq-Decides a.bytes b.bytes).0 parts.0 in
        let len : a.len ≡ b.len = eqb-true a.len b.len parts.1 in
        rw (bytes, len) refl

    same : key_word a ≡ key_word b → same_key a b ≡ true
    same is =
        let len : a.len ≡ b.len = sym (word_length a p) ∙ ap length is ∙ word_length b q in
        let bytes : a.bytes ≡ b.bytes = whole a p ∙ rw (is, len) refl ∙ sym (whole b q) in
        rw ((bytes_eq-Decides a.bytes b.bytes).1 bytes, eq-eqb a.len b.len len) refl

same_is : (a b : Key) → IsPadded a → IsPadded b → same_key a b ≡ bytes_eq (key_word a) (key_word b)
same_is a b p q = same_from_decides (same_key a b) (bytes_eq (key_word a) (key_word b)) (key_decides a b p q) (bytes_eq-Decides (key_word a) (key_word b))

pub any_same : (k : Key) (keys : List Key) → IsPadded k → ArePadded keys → list_any (same_key k) keys ≡ list_any (bytes_eq (key_word k)) (map key_word keys)
any_same k [] p ps = refl
any_same k (x ∷ xs) p ps = rw (same_is k x p ps.0, any_same k xs p ps.1) refl

place_same : (k : Key) (keys : List Key) → IsPadded k → ArePadded keys → position_or_len (same_key k) keys ≡ position_or_len (bytes_eq (key_word k)) (map key_word keys)
place_same k [] p ps = refl
place_same k (x ∷ xs) p ps = rw (same_is k x p ps.0, place_same k xs p ps.1) refl

pub position_same : (k : Key) (keys : List Key) → IsPadded k → ArePadded keys → position (same_key k) keys ≡ position (bytes_eq (key_word k)) (map key_word keys)
position_same k keys p ps = rw (place_same k keys p ps, length-map) refl

pub padded_more : (keys : List Key) (k : Key) → ArePadded keys → IsPadded k → ArePadded (keys ++ k ∷ [])
padded_more [] k ps p = (p, tt)
padded_more (x ∷ xs) k ps p = (ps.0, padded_more xs k ps.1 p)
