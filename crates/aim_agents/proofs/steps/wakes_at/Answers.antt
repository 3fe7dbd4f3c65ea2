use Rattle.std.proofs.Common.{◌<◌, inl, inr, get_or, length, sym, subst, arith}
use Rattle.std.proofs.lemmas.Bool.{cases_eq}
use Rattle.std.proofs.lemmas.List.{get_or_read}
use Rattle.aim_agents.specs.Agents.{Idles}
use Rattle.aim_agents.proofs.steps.wakes_at.Goals as goal

pub loop-agent-preserved : goal.loop-agent-preserved
loop-agent-preserved c = λ k d lt t lo hi.
    let xs = c.args.agents.now in
    let n = c.loop-agent.agent-index in
    let within : n < length xs = omega arith in
    elim (cases_eq k n) [
      | inl e ↦
          subst (λ m. Idles (get_or xs m d) t) (sym e)
          (subst (λ a. Idles a t) (get_or_read xs n c.agent-item.result within c.agent-item.is d) (c.idle_until.ensures t lo (omega arith)))
      | inr ne ↦ c.loop-agent.invariant k d (omega arith) t lo (omega arith)
    ]
