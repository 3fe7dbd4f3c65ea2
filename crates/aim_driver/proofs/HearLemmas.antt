-- Hearing one reply after another.
use Rattle.std.proofs.Common.{◌≡◌, ◌⊎◌, inl, inr, ℕ, zero, suc, ◌+◌, ◌≤◌, Bool, true, false, nat_le, List, [], ◌∷◌, ◌++◌, Some, None, refl, sym, ◌∙◌, ap, subst, add-one, arith}
use Rattle.std.proofs.lemmas.Bool.Decides.{nat_tests}
use Rattle.aim_messages.specs.declared.replies.Reply.{Reply}
use Rattle.aim_driver.specs.declared.logs.LogItem.{LogItem}
use Rattle.aim_driver.specs.declared.logs.LogItem.TheVariants as item
use Rattle.aim_driver.specs.Links.{LinkModel, under_way, delivered, after_delivery}
use Rattle.aim_driver.specs.Turns.{State, state, heard, hears, hears_all}
use Rattle.aim_messages.specs.declared.messages.Message.{Message}
use Rattle.aim_driver.proofs.SmallFacts.{true_le}
use Rattle.aim_driver.proofs.LinkLemmas.{fewer}

-- A log and a link after some replies, whatever is on the other link.
pub record Hearing (step : ℕ) (log : List LogItem) (down : LinkModel (ℕ × Reply)) (log' : List LogItem) (down' : LinkModel (ℕ × Reply)) : Type 0 where
  pub count : ℕ
  pub so : (up : LinkModel Message) → state log' up down' ≡ hears step count (state log up down)
  pub left : under_way down' + count ≤ under_way down

pub none_yet : (step : ℕ) (log : List LogItem) (down : LinkModel (ℕ × Reply)) → Hearing step log down log down
none_yet step log down = record { count = 0; so = λ up. refl; left = omega arith }

pub one_more : (step : ℕ) (log : List LogItem) (down : LinkModel (ℕ × Reply)) (log' : List LogItem) (down' : LinkModel (ℕ × Reply)) (seq : ℕ) (r : Reply) (log'' : List LogItem)
    → Hearing step log down log' down' → delivered down' step ≡ Some (seq, r) → log'' ≡ log' ++ item.Got step seq r ∷ [] → Hearing step log down log'' (after_delivery down' step)
one_more step log down log' down' seq r log'' h e is = record {
  count = suc h.count;
  so = λ up. (
      let here : State = state log' up down' in
      let next : heard step here (delivered down' step) ≡ state (log' ++ item.Got step seq r ∷ []) up (after_delivery down' step) = ap (λ o. heard step here o) e in
      let P : State → Type 0 = λ d. state log'' up (after_delivery down' step) ≡ heard step d (delivered d.down step) in
      subst P (h.so up) (ap (λ l. state l up (after_delivery down' step)) is ∙ sym next));
  left = let f = fewer down' step (seq, r) e in let l = h.left in let s = add-one h.count in omega arith;
}

le_cases : (k n : ℕ) → k ≤ suc n → (k ≡ suc n) ⊎ (k ≤ n)
le_cases k n h = go (nat_le k n) refl
  where
    go : (b : Bool) → nat_le k n ≡ b → (k ≡ suc n) ⊎ (k ≤ n)
    go true e = inr (true_le k n e)
    go false e = inl (grind (arith, nat_tests, add-one))

-- nothing more is heard
silent : (step : ℕ) (s : State) (k n : ℕ) → k ≤ n → delivered (hears step k s).down step ≡ None → hears step n s ≡ hears step k s
silent step s k zero le none = let z : k ≡ 0 = omega arith in ap (λ j. hears step j s) (sym z)
silent step s k (suc n) le none = elim (le_cases k n le) [
  | inl is ↦ ap (λ j. hears step j s) (sym is)
  | inr le' ↦ (
      let before = silent step s k n le' none in
      let P : State → Type 0 = λ d. heard step d (delivered d.down step) ≡ hears step k s in
      subst P (sym before) (ap (λ o. heard step (hears step k s) o) none))
]

pub all_heard : (step : ℕ) (log : List LogItem) (down : LinkModel (ℕ × Reply)) (log' : List LogItem) (down' down'' : LinkModel (ℕ × Reply))
    → Hearing step log down log' down' → delivered down' step ≡ None → down'' ≡ down' → (up : LinkModel Message) → state log' up down'' ≡ hears_all step (state log up down)
all_heard step log down log' down' down'' h none is up =
    let s : State = state log up down in
    let none' : delivered (hears step h.count s).down step ≡ None = ap (λ d. delivered d.down step) (sym (h.so up)) ∙ none in
    let le : h.count ≤ under_way down = (let l = h.left in omega arith) in
    ap (λ d. state log' up d) is ∙ h.so up ∙ sym (silent step s h.count (under_way down) le none')
