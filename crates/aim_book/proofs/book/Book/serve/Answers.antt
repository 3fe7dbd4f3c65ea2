use Rattle.std.proofs.Common.{ap}
use Rattle.aim_messages.specs.declared.entries.Entry.{Entry}
use Rattle.aim_book.proofs.EntryLemmas.{entry_replied, two_more}
use Rattle.aim_book.proofs.book.Book.serve.Goals as goal

pub returns-then-len-self-clause-legal : goal.returns-then-len-self-clause-legal
returns-then-len-self-clause-legal g c = rw (← c.self.view_is) c.self.invariant.managed.legal

pub returns-then-len-self-clause-pool : goal.returns-then-len-self-clause-pool
returns-then-len-self-clause-pool g c = ap (λ pool. pool.room) c.give_back.ensures

pub returns-then-len-self-clause-sheets : goal.returns-then-len-self-clause-sheets
returns-then-len-self-clause-sheets g c = two_more _ _ _ (ap (λ pool. pool.count) c.give_back.ensures)

pub returns-clause-reply : goal.returns-clause-reply
returns-clause-reply g c = ap (λ (e : Entry). e.reply) c.answer.ensures.entry

pub returns-clause-entry : goal.returns-clause-entry
returns-clause-entry g c = entry_replied c.args.self.now c.answer.new.self c.answer.result _ _ _ _ c.answer.ensures.entry c.answer.ensures.journal
