use Rattle.std.proofs.Common.{◌≡◌, ◌<◌, length, map, sym, ap, ◌∙◌, arith}
use Rattle.std.proofs.lemmas.List.{get_or-map, length-map}
use Rattle.aim_agents.specs.Agents.{AgentPass}
use Rattle.aim_drive.proofs.Lists.{element}
use Rattle.aim_drive.proofs.Seats.{taken_at}
use Rattle.aim_drive.proofs.making.take_pass.Goals as goal

pub loop-place-smaller : goal.loop-place-smaller
loop-place-smaller c =
    let s : length c.loop-place.passes.items ≡ length c.args.passes.now.items = ap (λ l. length l) c.loop-place.invariant.same in
    omega arith

pub unreachable-requires : goal.unreachable-requires
unreachable-requires c =
    let ps = c.args.passes.now.items in
    let n : length (map (λ (p : AgentPass). p.number) c.args.passes.now.items) ≡ length c.args.passes.now.items = length-map c.args.passes.now.items (λ (p : AgentPass). p.number) in
    let s : length c.loop-place.passes.items ≡ length c.args.passes.now.items = ap (λ l. length l) c.loop-place.invariant.same in
    let l : c.requires.0 < length (map (λ (p : AgentPass). p.number) c.args.passes.now.items) = c.requires.1 in
    let lt : c.requires.0 < length c.args.passes.now.items = omega arith in
    let p = element ps c.requires.0 lt in
    c.loop-place.invariant.none c.requires.0 p.0 (omega arith) (sym (get_or-map (λ (p : AgentPass). p.number) ps c.requires.0 p.0 c.args.vehicle lt) ∙ c.requires.2)

pub returns-then-number-vehicle : goal.returns-then-number-vehicle
returns-then-number-vehicle c =
    let lt : c.loop-place.place < length c.loop-place.passes.items = omega arith in
    taken_at c.args.passes.now.items c.loop-place.passes.items c.remove.new.self.items c.args.vehicle c.loop-place.place c.index.result.now c.remove.result
    c.loop-place.invariant.same lt c.index.ensures (sym c.number.ensures ∙ c.if-number-vehicle.true) c.remove.ensures.value c.remove.ensures.items
