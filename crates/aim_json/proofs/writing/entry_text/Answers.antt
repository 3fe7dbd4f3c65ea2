use Rattle.std.proofs.Common.{◌≡◌, ◌≤◌, Some, Result, Ok, Err, sym, subst}
use Rattle.std.specs.Prelude.{IfOk}
use Rattle.serde_json.specs.Data.{Data, depth}
use Rattle.serde_json.specs.Read.{read, max_depth}
use Rattle.aim_json.proofs.Values.{entry_is_shallow}
use Rattle.aim_json.proofs.writing.entry_text.Goals as goal

-- what holds of a value holds, where it follows
if_ok : {A E : Type 0} {P Q : A → Type 0} (r : Result A E) → ((a : A) → P a → Q a) → IfOk r P → IfOk r Q
if_ok (Ok a) f p = f a p
if_ok (Err e) f p = p

pub returns-clause-reads : goal.returns-clause-reads
returns-clause-reads c =
    let is = c.in_ok-entry_value.ensures in
    let shallow = subst (λ (d : Data). depth d ≤ max_depth) (sym is) (entry_is_shallow c.args.position c.args.entry.now) in
    if_ok c.to_vec.result (λ b reads. subst (λ (d : Data). read b.items ≡ Some d) is (reads shallow)) c.to_vec.ensures.reads_back
