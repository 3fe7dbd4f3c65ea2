-- Callers and their passes.
use Rattle.std.proofs.Common.{◌≡◌, ℕ, ◌≤◌, List, [], ◌∷◌, ◌++◌, length, subst, sym, ◌∙◌, ap, ◌<◌}
use Rattle.std.specs.Prelude.{All, get_or, vec_capacity}
use Rattle.std.proofs.lemmas.List.Elements.{All-push}
use Rattle.aim_shards.specs.Models.{PassModel, ShardsModel}
use Rattle.aim_shards_command.specs.declared.lines.ShardLine.{ShardLine}
use Rattle.aim_shards_command.specs.declared.callers.Caller.{Caller}
use Rattle.aim_shards_command.specs.Following.{tickets_of}
use Rattle.aim_shards_command.specs.Running.{HasCalled, HasDone, IsNew, IsReady}

-- an element of a list of which all have it
one_of : {A : Type 0} (P : A → Type 0) (xs : List A) (k : ℕ) (x : A) → All P xs → k < length xs → x ≡ get_or xs k x → P x
one_of P xs k x all lt is = subst P (sym is) (all k x lt)

pub ready_more : (s : ShardsModel) (passes : List PassModel) (k : ℕ) (p : PassModel) (old new : List Caller) (c : Caller) → All (IsNew s) passes → k < length passes → p ≡ get_or passes k p → All (IsReady s) old → new ≡ old ++ c ∷ []
    → c.pass ≡ p → c.tickets.items ≡ [] → 1024 ≤ vec_capacity c.tickets → All (IsReady s) new
ready_more s passes k p old new c all lt is ready e pass none room =
    subst (λ cs. All (IsReady s) cs) (sym e) (All-push (IsReady s) old c ready (at (subst (λ q. IsNew s q) (sym pass) (one_of (IsNew s) passes k p all lt is))))
  where
    at : IsNew s c.pass → IsReady s c
    at n = record { works = record { own = n.own; calls = n.calls; tickets = none ∙ ap tickets_of (sym n.none); room = room }; none = n.none }

pub done_more : (s : ShardsModel) (lines : List ShardLine) (callers : List Caller) (k : ℕ) (c : Caller) (old new : List PassModel) → All (HasCalled s lines) callers → k < length callers → c ≡ get_or callers k c → All (HasDone s lines) old → new ≡ old ++ c.pass ∷ []
    → All (HasDone s lines) new
done_more s lines callers k c old new all lt is done e =
    subst (λ ps. All (HasDone s lines) ps) (sym e) (All-push (HasDone s lines) old c.pass done (at (one_of (HasCalled s lines) callers k c all lt is)))
  where
    at : HasCalled s lines c → HasDone s lines c.pass
    at h = (let w = h.works in record { own = w.own; follows = h.follows })
