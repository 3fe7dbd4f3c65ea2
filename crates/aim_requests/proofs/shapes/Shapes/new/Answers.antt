use Rattle.std.proofs.Common.{◌≡◌, ◌-◌, ◌∷◌, [], arith, ap, ◌∙◌}
use Rattle.std.proofs.lemmas.List.Elements.{All-append}
use Rattle.aim_sheets.specs.Pools.{Stock}
use Rattle.aim_requests.specs.Requests.{IsPreparedFor}
use Rattle.aim_requests.proofs.shapes.Shapes.new.Goals as goal

pub loop-preserved : goal.loop-preserved
loop-preserved c =
    let i = c.args.layout.now in
    let count : c.prepare_from.new.pool.count ≡ c.loop.pool.count - 2 = ap (λ (s : Stock). s.count) c.prepare_from.ensures.pool in
    let room : c.prepare_from.new.pool.room ≡ c.loop.pool.room = ap (λ (s : Stock). s.room) c.prepare_from.ensures.pool in
    record {
      known = rw c.push_reserved.ensures.items (All-append (IsPreparedFor i) c.loop.slots.items (c.prepare_from.result ∷ []) c.loop.invariant.known (λ k d l. let z : k ≡ 0 = omega arith in rw z c.prepare_from.ensures.prepared));
      room = (let a = c.loop.invariant.room in let b = c.push_reserved.ensures.capacity in omega arith);
      len = (let a = c.loop.invariant.len in let b = c.push_reserved.ensures.len in omega arith);
      sheets = (let a = c.loop.invariant.sheets in let b = c.loop-test.true in omega arith);
      of_room = room ∙ c.loop.invariant.of_room;
    }
