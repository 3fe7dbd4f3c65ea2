use Rattle.std.proofs.Common.{refl, ◌∙◌, arith}
use Rattle.std.proofs.lemmas.List.{take-set}
use Rattle.aim_layout.proofs.Elements.{slice_get-set_same}
use Rattle.aim_text_session.proofs.answers.made.Goals as goal

pub returns : goal.returns
returns c =
    let text = c.entry_text-length.new.out in let n = c.entry_text-length.result in let told = c.entry_text-length.ensures in
    record {
      outcome = refl;
      fault = refl;
      position = refl;
      caller = refl;
      moment = refl;
      reply = c.reply_numbers.ensures;
      text = take-set text n 0 ∙ told.text;
      ends = slice_get-set_same text n 0 (omega (arith, told.fits, c.entry_text-length.array_long));
    }
