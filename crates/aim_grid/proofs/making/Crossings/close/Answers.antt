use Rattle.std.proofs.Common.{◌≡◌, ◌+◌, ◌∷◌, [], ◌++◌, List, length, sym, ◌∙◌, subst, arith}
use Rattle.std.specs.List.{AllZip}
use Rattle.std.proofs.lemmas.Iterator.{YieldsList-from_zip}
use Rattle.std.proofs.lemmas.Iterator.Adapters.{YieldsList-from_vec}
use Rattle.std.proofs.lemmas.Iterator.Consumers.{YieldsList-at, YieldsList-end, YieldsList-turn}
use Rattle.std.proofs.lemmas.List.{length_push, map-id}
use Rattle.aim_drive.specs.declared.running.Drove.{Drove}
use Rattle.aim_grid.proofs.Returning.{IsLeftOf, Open, all_left, back_at}
use Rattle.aim_grid.proofs.Zips.{zip_push}
use Rattle.aim_grid.proofs.making.Crossings.close.Goals as goal

pub close-requires : goal.close-requires
close-requires c =
    let ms = c.args.self.managers.items in
    let seats = c.args.self.seats.items in
    let first = c.into_iter.ensures in
    let second = c.zip-manager-items.ensures.second in
    let road = YieldsList-at c.into_iter-manager-iterator.ensures.into_iter_gives
    (YieldsList-from_zip (YieldsList-at c.zip-manager-items.ensures.first (YieldsList-from_vec {s = c.into_iter.result} c.args.self.managers.items first.rest (omega (arith, first.len, c.args.self.managers.ok))))
    (YieldsList-from_vec {s = c.zip-manager-items.result.b} c.args.self.seats.items second.0 (omega (arith, second.1, c.args.self.seats.ok)))) in
    let t = YieldsList-turn road c.loop-manager.yielded c.loop-manager.manager-iterator c.loop-manager.yielded_by c.next.result c.next.new.self (c.in-Some.manager, c.in-Some.seats) c.in-Some.is c.next.ensures.steps in
    record { back = back_at ms seats (length c.loop-manager.yielded) (c.in-Some.manager, c.in-Some.seats) c.requires.back t.0 t.1 }

pub loop-manager-preserved : goal.loop-manager-preserved
loop-manager-preserved c =
    let ms = c.args.self.managers.items in
    let seats = c.args.self.seats.items in
    let first = c.into_iter.ensures in
    let second = c.zip-manager-items.ensures.second in
    let road = YieldsList-at c.into_iter-manager-iterator.ensures.into_iter_gives
    (YieldsList-from_zip (YieldsList-at c.zip-manager-items.ensures.first (YieldsList-from_vec {s = c.into_iter.result} c.args.self.managers.items first.rest (omega (arith, first.len, c.args.self.managers.ok))))
    (YieldsList-from_vec {s = c.zip-manager-items.result.b} c.args.self.seats.items second.0 (omega (arith, second.1, c.args.self.seats.ok)))) in
    let n : length (c.loop-manager.yielded ++ (c.in-Some.manager, c.in-Some.seats) ∷ []) ≡ length c.loop-manager.yielded + 1 = length_push c.loop-manager.yielded (c.in-Some.manager, c.in-Some.seats) in
    let p = c.push_reserved.ensures in
    let i = c.loop-manager.invariant in
    record {
      count = omega (arith, p.len, i.count, n);
      room = omega (arith, p.capacity, i.room);
      left =
          subst (λ (l : List Drove). AllZip IsLeftOf (c.loop-manager.yielded ++ (c.in-Some.manager, c.in-Some.seats) ∷ []) l) (sym p.items)
          (zip_push IsLeftOf c.loop-manager.yielded c.loop-manager.left.items (c.in-Some.manager, c.in-Some.seats) c.in_ok-close.field-0 i.left c.in_ok-close.ensures);
    }

pub returns : goal.returns
returns c =
    let ms = c.args.self.managers.items in
    let seats = c.args.self.seats.items in
    let first = c.into_iter.ensures in
    let second = c.zip-manager-items.ensures.second in
    let road = YieldsList-at c.into_iter-manager-iterator.ensures.into_iter_gives
    (YieldsList-from_zip (YieldsList-at c.zip-manager-items.ensures.first (YieldsList-from_vec {s = c.into_iter.result} c.args.self.managers.items first.rest (omega (arith, first.len, c.args.self.managers.ok))))
    (YieldsList-from_vec {s = c.zip-manager-items.result.b} c.args.self.seats.items second.0 (omega (arith, second.1, c.args.self.seats.ok)))) in
    let t = YieldsList-end road c.loop-manager.yielded c.loop-manager.manager-iterator c.loop-manager.yielded_by c.next.result c.next.new.self c.in-None.is c.next.ensures.steps in
    all_left ms seats c.loop-manager.left.items c.requires.back
    (subst (λ (l : List Open). AllZip IsLeftOf l c.loop-manager.left.items) (sym (map-id c.loop-manager.yielded) ∙ t.0) c.loop-manager.invariant.left)
