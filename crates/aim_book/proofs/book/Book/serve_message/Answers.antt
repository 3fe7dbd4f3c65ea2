use Rattle.std.proofs.Common.{ap}
use Rattle.aim_messages.specs.declared.entries.Entry.{Entry}
use Rattle.aim_book.proofs.EntryLemmas.{entry_replied}
use Rattle.aim_book.proofs.book.Book.serve_message.Goals as goal

pub returns-clause-reply : goal.returns-clause-reply
returns-clause-reply g c = ap (λ (e : Entry). e.reply) c.in_ok-entry.ensures.entry

pub returns-clause-entry : goal.returns-clause-entry
returns-clause-entry g c = entry_replied c.args.self.now c.enter_message.new.self c.in_ok-entry.entry _ _ _ _ c.in_ok-entry.ensures.entry c.in_ok-entry.ensures.journal
