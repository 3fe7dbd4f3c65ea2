use Rattle.std.proofs.Common.{◌≡◌, ◌<◌, length, arith, ap, ◌∙◌}
use Rattle.std.proofs.lemmas.List.{take_more_set}
use Rattle.aim_messages.proofs.Words.{spaced_added}
use Rattle.aim_script.specs.Decided.{decision_words, printed}
use Rattle.aim_script.proofs.decisions.last_line.Goals as goal

pub returns-clause-text : goal.returns-clause-text
returns-clause-text c =
    let room : c.give-len.result < length c.give-len.new.out = omega (arith, c.put_decision.ensures.fits) in
    let words : _ ≡ _ = spaced_added (decision_words c.args.decision) in
    take_more_set c.give-len.new.out c.give-len.result 10 room ∙ ap printed (c.give-len.ensures.line ∙ rw c.put_decision.ensures.words words)
