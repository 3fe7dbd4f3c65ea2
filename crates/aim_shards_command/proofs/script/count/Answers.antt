use Rattle.std.proofs.Common.{ap, length, ◌∷◌, []}
use Rattle.aim_shards_command.specs.declared.lines.ShardLine.{ShardLine}
use Rattle.aim_shards_command.specs.Said.{asked_of, sets_of}
use Rattle.aim_shards_command.proofs.Growing.{keeps_set, keeps_claim, keeps_free, keeps_other}
use Rattle.aim_shards_command.proofs.script.count.Goals as goal

pub returns-in-Set : goal.returns-in-Set
returns-in-Set c before keeps none = keeps_set before c.args.line.now _ _ _ c.in-Set.is keeps none

pub returns-in-Claim : goal.returns-in-Claim
returns-in-Claim c before keeps none = keeps_claim before c.args.line.now _ _ _ _ c.in-Claim.is keeps none

pub returns-in-Free : goal.returns-in-Free
returns-in-Free c before keeps none = keeps_free before c.args.line.now _ _ _ _ c.in-Free.is keeps none

pub returns-in-Shards : goal.returns-in-Shards
returns-in-Shards c before keeps none =
    keeps_other before c.args.line.now _ _ (ap (λ (l : ShardLine). length (sets_of (l ∷ []))) c.in-Shards.is) (λ d. ap (λ (l : ShardLine). length (asked_of d (l ∷ []))) c.in-Shards.is) keeps none

pub returns-in-End : goal.returns-in-End
returns-in-End c before keeps none =
    keeps_other before c.args.line.now _ _ (ap (λ (l : ShardLine). length (sets_of (l ∷ []))) c.in-End.is) (λ d. ap (λ (l : ShardLine). length (asked_of d (l ∷ []))) c.in-End.is) keeps none
