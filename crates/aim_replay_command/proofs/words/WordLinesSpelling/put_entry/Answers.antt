use Rattle.std.proofs.Common.{◌<◌, length, arith, ap, ◌∙◌}
use Rattle.std.proofs.lemmas.List.{take_more_set}
use Rattle.aim_messages.specs.Texts.{entry_text}
use Rattle.aim_script.specs.Decided.{printed}
use Rattle.aim_script.specs.Spellings.{by_words}
use Rattle.aim_replay_command.proofs.EndLemmas.{puts_same}
use Rattle.aim_replay_command.proofs.words.WordLinesSpelling.put_entry.Goals as goal

pub put_whole-requires : goal.put_whole-requires
put_whole-requires g c =
    let room : c.entry_text-len.result < length c.entry_text-len.new.out = omega (arith, c.entry_text-len.ensures.fits, c.entry_text-len.array_long) in
    (entry_text c.args.position c.args.entry.now, take_more_set c.entry_text-len.new.out c.entry_text-len.result 10 room ∙ ap printed c.entry_text-len.ensures.text)

pub returns : goal.returns
returns g c =
    let room : c.entry_text-len.result < length c.entry_text-len.new.out = omega (arith, c.entry_text-len.ensures.fits, c.entry_text-len.array_long) in
    puts_same _ _ _ _ _ _ _ _ (take_more_set c.entry_text-len.new.out c.entry_text-len.result 10 room ∙ ap printed c.entry_text-len.ensures.text) (c.put_whole.ensures by_words)
