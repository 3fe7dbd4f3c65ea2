use Rattle.std.proofs.Common.{◌≡◌, ◌≤◌, List, length, sym, ap, ◌∙◌, subst}
use Rattle.std.specs.Prelude.{All, vec_capacity}
use Rattle.std.proofs.lemmas.List.{with_items_is}
use Rattle.aim_mail.specs.Calls.{ClientModel, IsOfMail}
use Rattle.bench_manager.proofs.mailbox.call_and_finish.Goals as goal

-- there are as many clients as before
pub finish_all-requires-clause-room : goal.finish_all-requires-clause-room
finish_all-requires-clause-room g c =
    let ys = c.all_turns.new.clients in
    let lent = c.deref_mut.ensures in
    let turns = c.all_turns.ensures in
    let count : length c.all_turns.new.clients ≡ c.args.clients.len = turns.count ∙ lent.len in
    let whole = ap (λ (l : List ClientModel). length l) (with_items_is c.args.clients ys count) ∙ turns.count ∙ ap (λ (l : List ClientModel). length l) lent.value in
    subst (λ n. n ≤ vec_capacity c.args.ended) (sym whole) c.requires.room

pub returns : goal.returns
returns g c =
    let ys = c.all_turns.new.clients in
    let lent = c.deref_mut.ensures in
    let turns = c.all_turns.ensures in
    let count : length c.all_turns.new.clients ≡ c.args.clients.len = turns.count ∙ lent.len in
    record {
      own = λ m own.
          subst (λ (l : List ClientModel). All (IsOfMail m) l) (sym (c.finish_all.ensures ∙ with_items_is c.args.clients ys count)) (turns.own m (subst (λ (l : List ClientModel). All (IsOfMail m) l) (sym lent.value) own));
    }
