use Rattle.std.proofs.Common.{drop, get_or, rules, arith}
use Rattle.std.proofs.lemmas.List.{take_rest}
use Rattle.aim_text_words.proofs.NumberLaws.{first_and_rest, none_above, too_great_is}
use Rattle.aim_text_words.proofs.numbers.value_up_to.Goals as goal

pub returns-in_default-with_digit : goal.returns-in_default-with_digit
returns-in_default-with_digit c =
    let i = c.loop-digits.invariant in
    let d = c.loop-digits.digits.now in
    let above = none_above c.loop-digits.value (get_or d 0 0) c.args.high c.with_digit.result (omega (arith, c.ranges.high.fits)) c.with_digit.ensures c.in_default-with_digit.is in
    too_great_is c.args.word.now d c.loop-digits.value c.args.high (get_or d 0 0) (drop 1 d) c.too_great.result (first_and_rest d c.in-len1-up.len_at_least) i.digits i.same (search rules) above (rw take_rest at c.too_great.ensures)
