-- Numbers in a row, one by one.
use Rattle.std.proofs.Common.{◌≡◌, ℕ, suc, ◌+◌, ◌-◌, ◌<◌, List, length, take, set, Ok, refl, arith}
use Rattle.std.proofs.lemmas.List.{take_more_set}
use Rattle.aim_messages.specs.Texts.{Words}
use Rattle.aim_text_words.specs.Faults.{rest, word_at, value_of, number32}
use Rattle.aim_text_words.specs.Steps.{read_in, numbers_in}

-- one number more stands in its place
pub numbers_next : (numbers : List ℕ) (i count : ℕ) (ws : Words) (n : ℕ) (left : Words) → i < length numbers → i < count → read_in number32 value_of ws ≡ Ok (n, left)
    → numbers_in (take i numbers) (count - i) ws ≡ numbers_in (take (i + 1) (set numbers i n)) (count - (i + 1)) left
unfolding numbers_in
numbers_next numbers i count ws n left inside below h =
    let more : count - i ≡ suc (count - (i + 1)) = omega arith in
    rw (more, h, take_more_set numbers i n inside) refl

-- one word is passed on the way to one ahead
pub one_passed : (words left : Words) (count i : ℕ) → i < count → left ≡ rest words → word_at left (count - (i + 1)) ≡ word_at words (count - i)
one_passed words left count i below is =
    let more : count - i ≡ suc (count - (i + 1)) = omega arith in
    rw (more, is) refl
