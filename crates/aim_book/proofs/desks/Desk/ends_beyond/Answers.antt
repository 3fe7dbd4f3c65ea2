use Rattle.std.proofs.Common.{refl}
use Rattle.aim_book.proofs.StartLemmas.{far_start}
use Rattle.aim_book.proofs.desks.Desk.ends_beyond.Goals as goal

pub returns : goal.returns
returns g c = λ k p vehicle place tells asking good.
    far_start c.args.layout.now vehicle place k p c.args.self.now c.now.result c.times.result.horizon c.is_far.result tells c.now.ensures.now (rw (c.times.ensures.times, c.ground.ensures.times) refl)
    (c.is_far.ensures p tells.valid.sound.times.early tells.valid.sound.times.late asking good)
