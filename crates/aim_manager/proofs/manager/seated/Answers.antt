use Rattle.std.proofs.Common.{◌≡◌, ℕ, List, [], ◌∷◌, ◌++◌, map, length, sym, ap, ◌∙◌}
use Rattle.std.specs.List.{range_with_len}
use Rattle.std.proofs.lemmas.List.{length-map, map-append}
use Rattle.aim_messages.specs.declared.entries.Entry.{Entry}
use Rattle.aim_messages.specs.declared.entries.TheConstants.{OPERATOR}
use Rattle.aim_turnstile.specs.Models.{PassModel, TurnstileModel, new_pass}
use Rattle.aim_manager.specs.declared.keeper.BookSetting.{BookSetting}
use Rattle.aim_manager.specs.Seen.{callers}
use Rattle.aim_manager.proofs.Callers.{callers_some, last_is}
use Rattle.aim_manager.proofs.manager.seated.Goals as goal

-- the passes of the vehicles, and the operator's
taken : (m : TurnstileModel BookSetting) (n : ℕ) (all rest : List (PassModel BookSetting Entry)) (last : PassModel BookSetting Entry) → all ≡ map (new_pass m) m.numbers → m.numbers ≡ callers n
    → all ≡ rest ++ last ∷ [] → (rest ≡ map (new_pass m) (range_with_len 0 n)) × (last ≡ new_pass m OPERATOR)
taken m n all rest last is numbers cut =
    last_is rest (map (new_pass m) (range_with_len 0 n)) last (new_pass m OPERATOR)
    (sym cut ∙ is ∙ ap (map (new_pass m)) numbers ∙ map-append (new_pass m) (range_with_len 0 n) (OPERATOR ∷ []))

pub returns-clause-passes : goal.returns-clause-passes
returns-clause-passes c = (taken _ _ _ _ _ c.requires.passes c.requires.numbers c.last_pass-operator.ensures).0

pub returns-clause-operator : goal.returns-clause-operator
returns-clause-operator c = (taken _ _ _ _ _ c.requires.passes c.requires.numbers c.last_pass-operator.ensures).1

pub last_pass-operator-requires : goal.last_pass-operator-requires
last_pass-operator-requires c = callers_some _ _ _ c.requires.numbers (ap length c.requires.passes ∙ length-map _ _)
