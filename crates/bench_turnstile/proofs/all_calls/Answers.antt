use Rattle.std.proofs.Common.{◌≡◌, ◌<◌, length, sym, ap, ◌∙◌, subst, arith}
use Rattle.aim_turnstile.specs.Models.{PassModel, IsPassOf}
use Rattle.bench_turnstile.specs.declared.register.Mark.{Mark}
use Rattle.bench_turnstile.specs.declared.register.Room.{Room}
use Rattle.bench_turnstile.proofs.all_calls.Goals as goal

pub for_each_mut-requires-clause-accepts : goal.for_each_mut-requires-clause-accepts
for_each_mut-requires-clause-accepts g c κs within = λ i p lt is.
    subst (λ (x : PassModel Room Mark). IsPassOf c.args.turnstile.now x) (sym is) (c.requires.own i p.now lt)

pub returns : goal.returns
returns g c = record {
  same = λ k d lt.
      let same : length c.for_each_mut.new.s ≡ length c.args.passes.now = omega arith in
      let old : k < length c.args.passes.now = omega (arith, lt, same) in
      let h = (c.for_each_mut.ensures k d old).1 in
      ap (λ (x : PassModel Room Mark). x.table) (sym h.left) ∙ h.call.table ∙ ap (λ (x : PassModel Room Mark). x.table) h.argument_is ∙ (c.requires.own k d old).table;
}
