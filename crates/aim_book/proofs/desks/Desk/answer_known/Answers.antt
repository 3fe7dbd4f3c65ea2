use Rattle.std.proofs.Common.{sym, ◌∙◌, length}
use Rattle.aim_book.proofs.ManagedLemmas.{tells, look_stale, look_repeat, look_reused}
use Rattle.aim_book.proofs.desks.Desk.answer_known.Goals as goal
use Rattle.aim_rules.specs.Known.{known_after}

pub returns-in-Stale : goal.returns-in-Stale
returns-in-Stale g c = λ n moment h m l. sym (look_stale c.args.layout.now n h c.args.vehicle moment c.args.self.now m l c.args.message.now c.in-Stale.last (sym c.requires.look ∙ c.in-Stale.is))

pub returns-in-Repeat : goal.returns-in-Repeat
returns-in-Repeat g c = λ n moment h m l. sym (look_repeat c.args.layout.now n h c.args.vehicle moment c.args.self.now m l c.args.message.now c.in-Repeat.reply (sym c.requires.look ∙ c.in-Repeat.is))

pub returns-in-Reused : goal.returns-in-Reused
returns-in-Reused g c = λ n moment h m l. c.refuse.ensures (known_after c.args.layout.now h c.args.vehicle moment) (length h) (tells c.args.layout.now n h c.args.vehicle moment c.args.self.now m l) ∙ sym (look_reused c.args.layout.now n h c.args.vehicle moment c.args.self.now m l c.args.message.now (sym c.requires.look ∙ c.in-Reused.is))
