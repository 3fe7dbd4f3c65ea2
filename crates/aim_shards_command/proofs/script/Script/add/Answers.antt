use Rattle.std.proofs.Common.{List, sym, subst}
use Rattle.aim_shards_command.specs.declared.lines.ShardLine.{ShardLine}
use Rattle.aim_shards_command.specs.Keeps.{Keeps}
use Rattle.aim_shards_command.proofs.Growing.{not_at_fault}
use Rattle.aim_shards_command.proofs.script.Script.add.Goals as goal

pub count-requires : goal.count-requires
count-requires c =
    (_, c.self.invariant, not_at_fault _ _ c.args.line _ (sym c.self.view_is) c.fault.ensures c.in_default.not-Some)

pub invariant_of-self-2 : goal.invariant_of-self-2
invariant_of-self-2 c =
    let none = not_at_fault _ _ c.args.line _ (sym c.self.view_is) c.fault.ensures c.in_default.not-Some in
    subst (λ (ls : List ShardLine). Keeps ls c.count.new.sets c.count.new.counts) (sym c.in-Ok.ensures.items) (c.count.ensures _ c.self.invariant none)
