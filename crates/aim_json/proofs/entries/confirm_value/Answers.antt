use Rattle.std.proofs.Common.{ℕ, List, codes, subst}
use Rattle.serde_json.specs.Data.{Members, put}
use Rattle.aim_json.specs.Members.{word}
use Rattle.aim_json.specs.Objects.{Holds}
use Rattle.aim_json.proofs.entries.confirm_value.Goals as goal

pub returns : goal.returns
returns c =
    let id = c.count.ensures _ c.with.ensures in
    let start = c.count-2.ensures _ id in
    let early = c.count-3.ensures _ start in
    let late = c.count-4.ensures _ early in
    let last = c.count-5.ensures _ late in
    let put_trial = subst (λ (t : List ℕ). (ms : Members) → Holds c.count-5.result ms → Holds c.word.result (put (codes "trial") (word t) ms)) c.pace_text.ensures c.word.ensures in
    let trial = put_trial _ last in
    c.value.ensures _ trial
