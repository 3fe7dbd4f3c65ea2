use Rattle.std.proofs.Common.{◌≡◌, ℕ, List, map, length, sym, ap, ◌∙◌, subst, arith}
use Rattle.std.specs.Prelude.{All}
use Rattle.std.proofs.lemmas.List.{length-map, with_items_is}
use Rattle.aim_turnstile.specs.Models.{PassModel, TurnstileModel, new_pass}
use Rattle.bench_turnstile.specs.declared.register.Mark.{Mark}
use Rattle.bench_turnstile.specs.declared.register.Room.{Room}
use Rattle.bench_turnstile.proofs.run.Goals as goal

-- there are as many new passes as numbers
as_many : (t : TurnstileModel Room) (ns : List ℕ) (ps : List (PassModel Room Mark)) → ps ≡ map (new_pass t) ns → t.numbers ≡ ns → length ps ≡ length t.numbers
as_many t ns ps is numbers = ap length is ∙ length-map ns (new_pass {E = Mark} t) ∙ ap length (sym numbers)

pub close-register-requires-clause-own : goal.close-register-requires-clause-own
close-register-requires-clause-own g c =
    let o = c.in_ok-turnstile in
    let lent = c.deref_mut.ensures in
    let count : length c.all_calls.new.passes ≡ c.in_ok-turnstile.passes.len = omega (arith, lent.len) in
    subst (λ (l : List (PassModel Room Mark)). All (λ p. p.table ≡ o.turnstile.table) l) (sym (with_items_is o.passes c.all_calls.new.passes count)) c.all_calls.ensures.same

pub close-register-requires-clause-all : goal.close-register-requires-clause-all
close-register-requires-clause-all g c =
    let o = c.in_ok-turnstile in
    let lent = c.deref_mut.ensures in
    let count : length c.all_calls.new.passes ≡ c.in_ok-turnstile.passes.len = omega (arith, lent.len) in
    let same : length c.all_calls.new.passes ≡ length c.in_ok-turnstile.passes.items = omega (arith, ap length lent.value) in
    ap length (with_items_is o.passes c.all_calls.new.passes count) ∙ same ∙ as_many o.turnstile _ o.passes.items o.ensures.passes o.ensures.turnstile.1
