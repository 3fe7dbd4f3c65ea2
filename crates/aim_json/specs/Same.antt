-- Whether two JSON values are the same.
use Rattle.std.specs.Prelude.{◌==◌, Bool, true, false, ◌&&◌, bytes_eq}
use Rattle.serde_json.specs.Data.{Num, unsigned, Data, null, number, string, array, object, Items, no_items, item, Members, no_members, member}

abbrev pub same_number : Num → Num → Bool
same_number (unsigned m) (unsigned n) = m == n
same_number _ _ = false

-- of values that are made of texts, of numbers from 0 on and of null: no other is the same as any
abbrev mutual
  pub same : Data → Data → Bool
  same null null = true
  same (number m) (number n) = same_number m n
  same (string s) (string t) = bytes_eq s t
  same (array ds) (array es) = same_items ds es
  same (object ms) (object ns) = same_members ms ns
  same _ _ = false

  pub same_items : Items → Items → Bool
  same_items no_items no_items = true
  same_items (item d ds) (item e es) = same d e && same_items ds es
  same_items _ _ = false

  pub same_members : Members → Members → Bool
  same_members no_members no_members = true
  same_members (member k d ms) (member l e ns) = bytes_eq k l && same d e && same_members ms ns
  same_members _ _ = false
