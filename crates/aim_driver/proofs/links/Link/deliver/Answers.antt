use Rattle.std.proofs.Common.{◌≡◌, None, Some, subst, ◌∙◌, ap}
use Rattle.aim_driver.specs.Links.{LinkModel, delivered, after_delivery}
use Rattle.aim_driver.proofs.LinkLemmas.{found_there, looked_for, nothing_delivered, stays, delivered_from, noted_from}
use Rattle.aim_driver.proofs.links.Link.deliver.Goals as goal

pub take-requires : goal.take-requires
take-requires g c =
    let l : LinkModel g.row.T.Denot = record { lag = c.self.inside.lag; fates = c.self.inside.fates.items; sent = c.self.inside.sent.items } in
    let found = looked_for l c.deref.result.now c.args.step c.first_due.result c.first_due.ensures c.deref.ensures.value ∙ c.in-Some.is in
    record { there = found_there l c.args.step c.in-Some.place found }

pub returns-in-None-clause-item : goal.returns-in-None-clause-item
returns-in-None-clause-item g c =
    let l : LinkModel g.row.T.Denot = record { lag = c.self.inside.lag; fates = c.self.inside.fates.items; sent = c.self.inside.sent.items } in
    let none = looked_for l c.deref.result.now c.args.step c.first_due.result c.first_due.ensures c.deref.ensures.value ∙ c.in-None.is in
    subst (λ m. None ≡ delivered m c.args.step) c.self.view_is (nothing_delivered l c.args.step none)

pub returns-in-None-clause-link : goal.returns-in-None-clause-link
returns-in-None-clause-link g c =
    let l : LinkModel g.row.T.Denot = record { lag = c.self.inside.lag; fates = c.self.inside.fates.items; sent = c.self.inside.sent.items } in
    let none = looked_for l c.deref.result.now c.args.step c.first_due.result c.first_due.ensures c.deref.ensures.value ∙ c.in-None.is in
    subst (λ m. m ≡ after_delivery m c.args.step) c.self.view_is (stays l c.args.step none)

pub returns-in-Some-clause-item : goal.returns-in-Some-clause-item
returns-in-Some-clause-item g c =
    let l : LinkModel g.row.T.Denot = record { lag = c.self.inside.lag; fates = c.self.inside.fates.items; sent = c.self.inside.sent.items } in
    let found = looked_for l c.deref.result.now c.args.step c.first_due.result c.first_due.ensures c.deref.ensures.value ∙ c.in-Some.is in
    subst (λ m. Some c.take.result ≡ delivered m c.args.step) c.self.view_is (delivered_from l c.args.step c.in-Some.place c.take.result found c.take.ensures.item)

pub returns-in-Some-clause-link : goal.returns-in-Some-clause-link
returns-in-Some-clause-link g c =
    let l : LinkModel g.row.T.Denot = record { lag = c.self.inside.lag; fates = c.self.inside.fates.items; sent = c.self.inside.sent.items } in
    let found = looked_for l c.deref.result.now c.args.step c.first_due.result c.first_due.ensures c.deref.ensures.value ∙ c.in-Some.is in
    noted_from l c.args.step c.in-Some.place c.take.new.sent.items found c.take.ensures.sent ∙ ap (λ m. after_delivery m c.args.step) c.self.view_is
