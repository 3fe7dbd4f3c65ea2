use Rattle.std.proofs.Common.{◌+◌, ◌++◌, ◌∷◌, [], ◌∙◌, ap, sym, length, nat_le, refl}
use Rattle.aim_grid_script.specs.Said.{parted}
use Rattle.aim_grid_script.proofs.Staging.{close_refused, close_settles}
use Rattle.aim_grid_script.proofs.stages.Blocks.close.Goals as goal

pub returns-in-Ok : goal.returns-in-Ok
returns-in-Ok c before a =
    let p = parted before in
    let s = c.in-Ok.setting in
    let all = ap (λ ls. nat_le c.args.self.count (length ls + 1)) (sym c.deref.ensures.value) ∙ sym c.has_all.ensures ∙ c.if-not-has_all.false in
    close_settles before c.args.self c.args.vehicles s s.version (c.args.self.whole.items ++ s.layout ∷ []) _ a all (c.in-Ok.ensures p.block a.header) refl refl c.joined.ensures

pub returns-in-Err : goal.returns-in-Err
returns-in-Err c before a =
    let p = parted before in
    let all = ap (λ ls. nat_le c.args.self.count (length ls + 1)) (sym c.deref.ensures.value) ∙ sym c.has_all.ensures ∙ c.if-not-has_all.false in
    rw c.told.ensures (close_refused before c.args.self c.args.vehicles c.in-Err.why a all (c.in-Err.ensures p.block a.header))
