use Rattle.aim_messages.proofs.Words.{written}
use Rattle.aim_messages.proofs.writing.text.put_at.Goals as goal

pub returns-clause-front : goal.returns-clause-front
returns-clause-front c = written c.args.bytes.now c.copy_from_slice.new.self c.args.word.now c.args.at _ c.requires c.copy_from_slice.ensures.after
