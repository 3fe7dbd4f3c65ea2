use Rattle.std.proofs.Common.{[], length, ap, sym, ◌∙◌, arith}
use Rattle.aim_turnstile.proofs.Seats.{comes_new}
use Rattle.aim_turnstile.proofs.Totals.{All_of, sum_by-total}
use Rattle.aim_turnstile.proofs.Closes.{arrived, with_none, stranger}
use Rattle.aim_turnstile.proofs.Orders.{numbers_of}
use Rattle.aim_turnstile.proofs.turnstile.Turnstile.close.Goals as goal

pub load_new_seat-main-requires : goal.load_new_seat-main-requires
load_new_seat-main-requires g c = (omega (arith, c.self.invariant.0), comes_new _ _ _ _)

pub gather-requires-clause-main : goal.gather-requires-clause-main
gather-requires-clause-main g c =
    let a = c.load_new_seat-main.ensures in
    ([], arrived _ _ _ a.1 a.2)

pub finish-requires-clause-main : goal.finish-requires-clause-main
finish-requires-clause-main g c =
    let a = c.load_new_seat-main.ensures in
    (c.args.passes.items, with_none _ _ _ _ (c.gather.ensures.main [] (arrived _ _ _ a.1 a.2)), c.requires.all ∙ sym (ap (λ z. length z.numbers) c.self.view_is))

pub returns : goal.returns
returns g c =
    let a = c.load_new_seat-main.ensures in
    let e = c.finish.ensures c.args.passes.items (with_none _ _ _ _ (c.gather.ensures.main [] (arrived _ _ _ a.1 a.2))) (c.requires.all ∙ sym (ap (λ z. length z.numbers) c.self.view_is)) in
    rw (← c.self.view_is) record { setting = e.setting; lawful = e.lawful; passes = All_of _ _ e.passes; numbers = numbers_of _ _ e.places; others = λ n h. e.others n (stranger _ n h); count = e.count ∙ sym (sum_by-total _ _) }
