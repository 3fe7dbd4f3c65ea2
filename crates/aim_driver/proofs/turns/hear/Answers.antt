use Rattle.std.proofs.Common.{◌≡◌, ◌+◌, ◌<◌, ◌≤◌, ℕ, ◌∷◌, [], ◌++◌, Some, sym, ◌∙◌, ap, subst, arith}
use Rattle.aim_messages.specs.declared.replies.Reply.{Reply}
use Rattle.aim_driver.specs.declared.logs.LogItem.TheVariants as item
use Rattle.aim_driver.specs.Links.{LinkModel, delivered, under_way, after_delivery}
use Rattle.aim_driver.proofs.LinkLemmas.{fewer}
use Rattle.aim_driver.proofs.HearLemmas.{Hearing, one_more, all_heard}
use Rattle.aim_driver.proofs.turns.hear.Goals as goal

pub loop-seq-preserved : goal.loop-seq-preserved
loop-seq-preserved c =
    let e : delivered c.loop-seq.down c.args.step ≡ Some (c.in-Some.seq, c.in-Some.reply) = sym c.in-Some.ensures.item in
    let log : c.got.new.self.log ≡ c.loop-seq.driver.log ++ item.Got c.args.step c.in-Some.seq c.in-Some.reply ∷ [] =
    c.got.ensures.log ∙ ap (λ l. l ++ item.Got c.args.step c.in-Some.seq c.in-Some.reply ∷ []) c.reserve.ensures.log in
    let P : LinkModel (ℕ × Reply) → Type 0 = λ d. Hearing c.args.step c.args.driver.now.log c.args.down.now c.got.new.self.log d in
    record {
      same = c.got.ensures.plan ∙ (c.reserve.ensures.plan ∙ c.loop-seq.invariant.same);
      early = c.got.ensures.last;
      hearing = subst P (sym c.deliver.ensures.link)
          (one_more c.args.step c.args.driver.now.log c.args.down.now c.loop-seq.driver.log c.loop-seq.down c.in-Some.seq c.in-Some.reply c.got.new.self.log c.loop-seq.invariant.hearing e log);
    }

pub returns-clause-heard : goal.returns-clause-heard
returns-clause-heard c =
    all_heard c.args.step c.args.driver.now.log c.args.down.now c.loop-seq.driver.log c.loop-seq.down c.deliver.new.self c.loop-seq.invariant.hearing (sym c.in_default.ensures.item) c.in_default.ensures.none

pub loop-seq-smaller : goal.loop-seq-smaller
loop-seq-smaller c =
    let e : delivered c.loop-seq.down c.args.step ≡ Some (c.in-Some.seq, c.in-Some.reply) = sym c.in-Some.ensures.item in
    let less : under_way (after_delivery c.loop-seq.down c.args.step) + 1 ≤ under_way c.loop-seq.down = fewer c.loop-seq.down c.args.step (c.in-Some.seq, c.in-Some.reply) e in
    let P : LinkModel (ℕ × Reply) → Type 0 = λ d. under_way d < under_way c.loop-seq.down in
    subst P (sym c.deliver.ensures.link) (omega arith)
