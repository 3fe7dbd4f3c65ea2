use Rattle.std.proofs.Common.{ap, subst, sym}
use Rattle.aim_layout.specs.Valid.{IsValid}
use Rattle.aim_grid.specs.BookSetting.{BookSetting}
use Rattle.aim_grid.proofs.Openings.{manager_new, setting_new}
use Rattle.aim_grid.proofs.making.opened.Goals as goal

pub returns-in-Ok-clause-setting : goal.returns-in-Ok-clause-setting
returns-in-Ok-clause-setting c = setting_new c.in_ok-opened.opened.manager c.args.vehicles c.args.layout c.in_ok-opened.ensures.manager

pub returns-in-Ok-clause-valid : goal.returns-in-Ok-clause-valid
returns-in-Ok-clause-valid c = subst IsValid (sym (ap (λ (x : BookSetting). x.layout) c.in_ok-opened.ensures.manager)) c.ground.ensures.valid

pub returns-in-Ok-clause-seats : goal.returns-in-Ok-clause-seats
returns-in-Ok-clause-seats c =
    let o = c.in_ok-opened.ensures in
    let e = c.in-Ok.ensures in
    manager_new c.in_ok-opened.opened.manager c.in-Ok.seats c.in_ok-opened.opened.passes.items c.in_ok-opened.opened.operator e.passes o.passes e.operator o.operator e.logs
