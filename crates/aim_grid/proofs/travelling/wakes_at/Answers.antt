use Rattle.std.proofs.Common.{◌<◌, inl, inr, get_or, length, sym, subst, arith}
use Rattle.std.proofs.lemmas.Bool.{cases_eq}
use Rattle.std.proofs.lemmas.List.{get_or_read}
use Rattle.aim_agents.specs.Agents.{Idles}
use Rattle.aim_grid.specs.Models.{TravellerModel}
use Rattle.aim_grid.proofs.travelling.wakes_at.Goals as goal

pub loop-traveller-preserved : goal.loop-traveller-preserved
loop-traveller-preserved c = λ k d lt t lo hi.
    let xs = c.args.travellers.now in
    let n = c.loop-traveller.traveller-index in
    let within : n < length xs = omega arith in
    elim (cases_eq k n) [
      | inl e ↦
          subst (λ m. Idles (get_or xs m d).agent t) (sym e)
          (subst (λ (a : TravellerModel). Idles a.agent t) (get_or_read xs n c.traveller-item.result within c.traveller-item.is d) (c.idle_until.ensures t lo (omega arith)))
      | inr ne ↦ c.loop-traveller.invariant k d (omega arith) t lo (omega arith)
    ]
