-- A client that stayed the same client is one of the same mailbox.
use Rattle.std.proofs.Common.{◌≡◌, List, sym, ap, ◌∙◌, subst}
use Rattle.std.specs.Prelude.{All}
use mathlib.Core.Option.{some}
use lib.ListN.{get_elem?}
use Rattle.aim_mail.specs.Calls.{ClientModel, ServerModel, IsOfMail, IsSameClient}

-- The client before is `old`, which a closure took as `taken` and left as `left`, and the one after it is `new`.
pub same_mail : (m : ServerModel) (old taken left new : ClientModel) → taken ≡ old → left ≡ new → IsSameClient taken left → IsOfMail m old → IsOfMail m new
same_mail m old taken left new was is same own =
    let o = subst (λ x. IsOfMail m x) (sym was) own in
    subst (λ x. IsOfMail m x) is (record {
      asks_on = same.asks_on ∙ o.asks_on;
      hears_on = ap (λ v. get_elem? m.answers_on v) same.vehicle ∙ o.hears_on ∙ ap (λ h. some h) (sym same.hears_on);
      setting = same.setting ∙ o.setting;
    })

-- What is so of the clients of any mailbox is so of those of the server's, which one that served leaves.
pub own_of : (server served : ServerModel) (old new : List ClientModel) → (served ≡ server) × ((m : ServerModel) → All (IsOfMail m) old → All (IsOfMail m) new) → All (IsOfMail server) old → All (IsOfMail served) new
own_of server served old new h own = subst (λ (m : ServerModel). All (IsOfMail m) new) (sym h.0) (h.1 server own)
