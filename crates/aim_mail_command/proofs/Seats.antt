-- A caller for each client, one after another.
use Rattle.std.proofs.Common.{◌≡◌, ℕ, ◌+◌, ◌<◌, inl, inr, List, [], ◌∷◌, ◌++◌, length, map, get_or, sym, ap, ◌∙◌, subst, arith}
use Rattle.std.proofs.lemmas.Bool.{cases_lt}
use Rattle.std.proofs.lemmas.List.{get_or_append_left, get_or_push, length_push, map_push}
use Rattle.aim_sheets.specs.Pools.{Stock}
use Rattle.aim_mail.specs.Calls.{ClientModel}
use Rattle.aim_mail_command.specs.declared.callers.Caller.{Caller}
use Rattle.aim_mail_command.specs.Calling.{IsNewCaller}

-- the caller of a client that has made no call
abbrev pub caller_with : ℕ → ClientModel → Stock → Caller
caller_with vehicle client sheets = record { vehicle = vehicle; client = client; sheets = sheets; place = 0 }

pub clients_more : (yielded : List ClientModel) (client : ClientModel) (old new : List Caller) (c : Caller) → map (λ c. c.client) old ≡ yielded → c.client ≡ client → new ≡ old ++ c ∷ [] → map (λ c. c.client) new ≡ yielded ++ client ∷ []
clients_more yielded client old new c so_far own is =
    ap (λ (l : List Caller). map (λ c. c.client) l) is ∙ map_push (λ (x : Caller). x.client) old c ∙ ap (λ l. l ++ c.client ∷ []) so_far ∙ ap (λ x. yielded ++ x ∷ []) own

pub seats_more : (spans vehicle : ℕ) (client : ClientModel) (old new : List Caller) (c : Caller) → vehicle ≡ length old → c ≡ caller_with vehicle client (record { count = 3; room = spans }) → new ≡ old ++ c ∷ []
    → ((k : ℕ) (d : Caller) → k < length old → IsNewCaller k spans (get_or old k d)) → (k : ℕ) (d : Caller) → k < length new → IsNewCaller k spans (get_or new k d)
seats_more spans vehicle client old new c number made is seats k d lt =
    let n : length new ≡ length old + 1 = ap (λ (l : List Caller). length l) is ∙ length_push old c in
    let one : IsNewCaller vehicle spans c = record { vehicle_is = ap (λ x. x.vehicle) made; room = ap (λ x. x.sheets.room) made; three = ap (λ x. x.sheets.count) made; first = ap (λ x. x.place) made } in
    subst (λ (l : List Caller). IsNewCaller k spans (get_or l k d)) (sym is) (elim (cases_lt k (length old)) [
      | inl less ↦ subst (λ x. IsNewCaller k spans x) (sym (get_or_append_left old (c ∷ []) d k less)) (seats k d less)
      | inr past ↦
          (let same : length old ≡ k = omega (arith, n, lt, past) in
          subst (λ x. IsNewCaller k spans x) (sym (get_or_push old c d k same)) (subst (λ m. IsNewCaller m spans c) (number ∙ same) one))
    ])
