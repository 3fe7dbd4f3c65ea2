-- The test of sameness says whether two values are equal, where they are made of texts and numbers.
use Rattle.std.proofs.Common.{◌≡◌, ℕ, true, ◌&&◌, List, refl, sym, ap, ap₂, ◌∙◌, true≢false}
use Rattle.std.specs.Str.{bytes_eq}
use Rattle.std.proofs.lemmas.Bool.{and_parts, eqb-true, eq-eqb}
use Rattle.std.proofs.lemmas.Slice.Eq.{bytes_eq-Decides}
use Rattle.serde_json.specs.Data.{Num, unsigned, negative, float, Data, null, boolean, number, string, array, object, Items, no_items, item, Members, no_members, member}
use Rattle.aim_json.proofs.Values.{is_plain, are_plain, have_plain}
use Rattle.aim_json.specs.Same.{same, same_number, same_items, same_members}

same_text : (s t : List ℕ) → bytes_eq s t ≡ true → s ≡ t
same_text s t h = (bytes_eq-Decides s t).0 h

text_is_same : (s : List ℕ) → bytes_eq s s ≡ true
text_is_same s = (bytes_eq-Decides s s).1 refl

numbers_are_equal : (m n : Num) → same_number m n ≡ true → m ≡ n
numbers_are_equal (unsigned m) (unsigned n) h = ap unsigned (eqb-true m n h)
numbers_are_equal (unsigned m) (negative z) h = absurd (true≢false (sym h))
numbers_are_equal (unsigned m) (float x) h = absurd (true≢false (sym h))
numbers_are_equal (negative z) n h = absurd (true≢false (sym h))
numbers_are_equal (float x) n h = absurd (true≢false (sym h))

mutual
  pub same_is_equal : (d e : Data) → same d e ≡ true → d ≡ e
  same_is_equal null null h = refl
  same_is_equal null (boolean c) h = absurd (true≢false (sym h))
  same_is_equal null (number k) h = absurd (true≢false (sym h))
  same_is_equal null (string t) h = absurd (true≢false (sym h))
  same_is_equal null (array es) h = absurd (true≢false (sym h))
  same_is_equal null (object ns) h = absurd (true≢false (sym h))
  same_is_equal (boolean b) e h = absurd (true≢false (sym h))
  same_is_equal (number n) (number k) h = ap number (numbers_are_equal n k h)
  same_is_equal (number n) null h = absurd (true≢false (sym h))
  same_is_equal (number n) (boolean c) h = absurd (true≢false (sym h))
  same_is_equal (number n) (string t) h = absurd (true≢false (sym h))
  same_is_equal (number n) (array es) h = absurd (true≢false (sym h))
  same_is_equal (number n) (object ns) h = absurd (true≢false (sym h))
  same_is_equal (string s) (string t) h = ap string (same_text s t h)
  same_is_equal (string s) null h = absurd (true≢false (sym h))
  same_is_equal (string s) (boolean c) h = absurd (true≢false (sym h))
  same_is_equal (string s) (number k) h = absurd (true≢false (sym h))
  same_is_equal (string s) (array es) h = absurd (true≢false (sym h))
  same_is_equal (string s) (object ns) h = absurd (true≢false (sym h))
  same_is_equal (array ds) (array es) h = ap array (items_are_equal ds es h)
  same_is_equal (array ds) null h = absurd (true≢false (sym h))
  same_is_equal (array ds) (boolean c) h = absurd (true≢false (sym h))
  same_is_equal (array ds) (number k) h = absurd (true≢false (sym h))
  same_is_equal (array ds) (string t) h = absurd (true≢false (sym h))
  same_is_equal (array ds) (object ns) h = absurd (true≢false (sym h))
  same_is_equal (object ms) (object ns) h = ap object (members_are_equal ms ns h)
  same_is_equal (object ms) null h = absurd (true≢false (sym h))
  same_is_equal (object ms) (boolean c) h = absurd (true≢false (sym h))
  same_is_equal (object ms) (number k) h = absurd (true≢false (sym h))
  same_is_equal (object ms) (string t) h = absurd (true≢false (sym h))
  same_is_equal (object ms) (array es) h = absurd (true≢false (sym h))

  items_are_equal : (ds es : Items) → same_items ds es ≡ true → ds ≡ es
  items_are_equal no_items no_items h = refl
  items_are_equal no_items (item e es) h = absurd (true≢false (sym h))
  items_are_equal (item d ds) no_items h = absurd (true≢false (sym h))
  items_are_equal (item d ds) (item e es) h =
      let both = and_parts (same d e) (same_items ds es) h in
      ap₂ item (same_is_equal d e both.0) (items_are_equal ds es both.1)

  members_are_equal : (ms ns : Members) → same_members ms ns ≡ true → ms ≡ ns
  members_are_equal no_members no_members h = refl
  members_are_equal no_members (member l e ns) h = absurd (true≢false (sym h))
  members_are_equal (member k d ms) no_members h = absurd (true≢false (sym h))
  members_are_equal (member k d ms) (member l e ns) h =
      let rest = and_parts (bytes_eq k l && same d e) (same_members ms ns) h in
      let both = and_parts (bytes_eq k l) (same d e) rest.0 in
      ap₂ (λ key value. member key value ms) (same_text k l both.0) (same_is_equal d e both.1) ∙ ap (member l e) (members_are_equal ms ns rest.1)

mutual
  pub plain_is_same : (d : Data) → is_plain d ≡ true → same d d ≡ true
  plain_is_same null h = refl
  plain_is_same (boolean b) h = absurd (true≢false (sym h))
  plain_is_same (number (unsigned n)) h = eq-eqb n n refl
  plain_is_same (number (negative z)) h = absurd (true≢false (sym h))
  plain_is_same (number (float x)) h = absurd (true≢false (sym h))
  plain_is_same (string s) h = text_is_same s
  plain_is_same (array ds) h = items_are_same ds h
  plain_is_same (object ms) h = members_are_same ms h

  items_are_same : (ds : Items) → are_plain ds ≡ true → same_items ds ds ≡ true
  items_are_same no_items h = refl
  items_are_same (item d ds) h =
      let both = and_parts (is_plain d) (are_plain ds) h in
      rw (plain_is_same d both.0, items_are_same ds both.1) refl

  members_are_same : (ms : Members) → have_plain ms ≡ true → same_members ms ms ≡ true
  members_are_same no_members h = refl
  members_are_same (member k d ms) h =
      let both = and_parts (is_plain d) (have_plain ms) h in
      rw (text_is_same k, plain_is_same d both.0, members_are_same ms both.1) refl
