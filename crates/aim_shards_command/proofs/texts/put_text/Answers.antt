use Rattle.std.proofs.Common.{◌≡◌, ◌++◌, ◌∙◌, subst}
use Rattle.std.specs.Prelude.{OnOk}
use Rattle.aim_messages.proofs.Words.{spaced_added}
use Rattle.aim_shards_command.specs.Texts.{claim_words}
use Rattle.aim_shards_command.proofs.TextLines.{where_ok}
use Rattle.aim_shards_command.proofs.texts.put_text.Goals as goal

pub returns : goal.returns
returns c =
    subst (λ t. OnOk c.extend_from_slice.result (c.extend_from_slice.new.self.items ≡ c.args.out.now.items ++ t))
    (c.line.ensures ∙ rw c.put_words.ensures.words (spaced_added (claim_words c.args.entry.now)))
    (where_ok c.extend_from_slice.result c.extend_from_slice.new.self.items (c.args.out.now.items ++ c.line.result.now) c.args.out.now.items c.extend_from_slice.ensures.items)
