use Rattle.std.proofs.Common.{List, subst, sym}
use Rattle.std.proofs.lemmas.Result.{IfOk-weaker}
use Rattle.aim_shards.specs.declared.claims.ClaimEntry.{ClaimEntry}
use Rattle.aim_shards.specs.Closing.{AreMade}
use Rattle.aim_shards.specs.History.{IsHistory}
use Rattle.aim_shards.proofs.OneHistory.{list_rises, four_one, merged_is}
use Rattle.aim_shards.proofs.merging.history.Goals as goal

pub merge-requires-clause-first : goal.merge-requires-clause-first
merge-requires-clause-first c = (let x = c.close-closed.ensures in let l = x.1.lists in list_rises _ _ x.0 _ _ _ _ l.first_is l.second_is l.third_is l.fourth_is x.1.history 0 _ l.first_is)

pub merge-requires-clause-second : goal.merge-requires-clause-second
merge-requires-clause-second c = (let x = c.close-closed.ensures in let l = x.1.lists in list_rises _ _ x.0 _ _ _ _ l.first_is l.second_is l.third_is l.fourth_is x.1.history 1 _ l.second_is)

pub merge-requires-clause-third : goal.merge-requires-clause-third
merge-requires-clause-third c = (let x = c.close-closed.ensures in let l = x.1.lists in list_rises _ _ x.0 _ _ _ _ l.first_is l.second_is l.third_is l.fourth_is x.1.history 2 _ l.third_is)

pub merge-requires-clause-fourth : goal.merge-requires-clause-fourth
merge-requires-clause-fourth c = (let x = c.close-closed.ensures in let l = x.1.lists in list_rises _ _ x.0 _ _ _ _ l.first_is l.second_is l.third_is l.fourth_is x.1.history 3 _ l.fourth_is)

pub merge-requires-clause-one : goal.merge-requires-clause-one
merge-requires-clause-one c = (let x = c.close-closed.ensures in let l = x.1.lists in four_one _ _ x.0 _ _ _ _ l.first_is l.second_is l.third_is l.fourth_is x.1.history)

pub returns-clause-history : goal.returns-clause-history
returns-clause-history c =
    let x = c.close-closed.ensures in
    let l = x.1.lists in
    IfOk-weaker _ _ _ (λ v m. subst (λ (log : List ClaimEntry). IsHistory c.args.shards.sets log) (sym (merged_is _ _ x.0 _ _ _ _ l.first_is l.second_is l.third_is l.fourth_is x.1.history _ m)) x.1.history) c.merge.ensures

pub returns-clause-made : goal.returns-clause-made
returns-clause-made c =
    let x = c.close-closed.ensures in
    let l = x.1.lists in
    IfOk-weaker _ _ _ (λ v m. subst (λ (log : List ClaimEntry). AreMade c.args.shards.numbers c.args.passes.items log) (sym (merged_is _ _ x.0 _ _ _ _ l.first_is l.second_is l.third_is l.fourth_is x.1.history _ m)) x.1.made) c.merge.ensures
