use Rattle.std.proofs.Common.{List, ◌++◌, subst, sym}
use Rattle.std.proofs.lemmas.Result.{IfOk-weaker}
use Rattle.aim_shards.specs.declared.claims.ClaimEntry.{ClaimEntry}
use Rattle.aim_shards.specs.Merging.{AreOne}
use Rattle.aim_shards.proofs.Merged.{one_left, one_right, one_of_four, merge_four}
use Rattle.aim_shards.proofs.merging.merge.Goals as goal

pub merge_two-requires-clause-one : goal.merge_two-requires-clause-one
merge_two-requires-clause-one c = subst (λ (p : List ClaimEntry × List ClaimEntry). AreOne (p.0 ++ p.1)) (λ i. (sym c.deref.ensures.value i, sym c.deref-2.ensures.value i)) (one_left _ _ c.requires.one)

pub merge_two-requires-2-clause-one : goal.merge_two-requires-2-clause-one
merge_two-requires-2-clause-one c = subst (λ (p : List ClaimEntry × List ClaimEntry). AreOne (p.0 ++ p.1)) (λ i. (sym c.deref-3.ensures.value i, sym c.deref-4.ensures.value i)) (one_right _ _ c.requires.one)

pub merge_two-requires-3-clause-one : goal.merge_two-requires-3-clause-one
merge_two-requires-3-clause-one c = subst (λ (p : List ClaimEntry × List ClaimEntry). AreOne (p.0 ++ p.1)) (λ i. (sym c.deref-5.ensures.value i, sym c.deref-6.ensures.value i)) (one_of_four c.deref.ensures.value c.deref-2.ensures.value c.deref-3.ensures.value c.deref-4.ensures.value c.in_ok-upper.ensures c.in_ok-lower.ensures c.requires.one)

pub returns : goal.returns
returns c = IfOk-weaker _ _ _ (λ v m. merge_four c.deref.ensures.value c.deref-2.ensures.value c.deref-3.ensures.value c.deref-4.ensures.value c.in_ok-upper.ensures c.in_ok-lower.ensures c.deref-5.ensures.value c.deref-6.ensures.value m) c.merge_two-3.ensures
