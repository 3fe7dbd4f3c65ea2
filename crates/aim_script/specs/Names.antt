-- Names as a set keeps them.
use Rattle.std.specs.Prelude.{◌≡◌, ◌≤◌, ◌-◌, ℕ, List, length, take, drop, replicate}
use Rattle.std.specs.List.{AllByRecursion}
use Rattle.aim_script.specs.declared.names.Key.{Key}

abbrev pub key_word : Key → List ℕ
key_word k = take k.len k.bytes

-- behind the name's bytes there are zeros
pub record IsPadded (k : Key) : Type 0 where
  pub long : length k.bytes ≡ 16
  pub most : k.len ≤ 16
  pub rest : drop k.len k.bytes ≡ replicate (16 - k.len) 0

abbrev pub ArePadded : List Key → Type 0
ArePadded keys = AllByRecursion IsPadded keys
