use Rattle.std.proofs.Common.{◌∙◌, ap}
use Rattle.aim_rules.specs.History.{is_confirm}
use Rattle.aim_book.proofs.AtOnceLemmas.{refused_fresh}
use Rattle.aim_book.proofs.desks.Desk.refuse_at_once.Goals as goal

pub returns-clause-reply : goal.returns-clause-reply
returns-clause-reply g c = λ k place tells.
    refused_fresh c.args.layout.now k c.args.body.now c.args.params.now c.in_ok-reason.reason c.refuse.result (tells.stopped ∙ c.requires.going) c.requires.asks (c.in_ok-reason.ensures k place tells) (c.refuse.ensures k place tells)

pub returns-clause-refused : goal.returns-clause-refused
returns-clause-refused g c = λ k place tells. ap is_confirm (c.refuse.ensures k place tells)
