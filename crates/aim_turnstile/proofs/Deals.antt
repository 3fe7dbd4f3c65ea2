-- The first seat deals a seat to each number.
use Rattle.std.proofs.Common.{◌≡◌, ℕ, suc, ◌+◌, ◌<◌, List, [], ◌∷◌, ◌++◌, length, map, get_or, take, drop, drop-cons, refl, sym, ap, ◌∙◌, subst, arith, Some, Option}
use Rattle.std.proofs.lemmas.List.{map_more}
use Rattle.atomic_table.specs.Table.{Me}
use Rattle.atomic_table.specs.Seated.{TableId}
use Rattle.aim_turnstile.specs.declared.view.View.{View}
use Rattle.aim_turnstile.specs.Models.{PassModel, TurnstileModel, new_pass}
use Rattle.aim_turnstile.specs.Turned.{seated, rest_of, next_of, dealing_view, Sits}

module _ {K S E : Type 0} where
  -- the numbers from the i-th on are still to give, and the i-th is dealt
  pub front_number : (s : S) (ns : List ℕ) (i : ℕ) (m : Me (Option K) (View S E)) → i < length ns → m ≡ (dealing_view s ns (drop i ns), []) → m ≡ (dealing_view s ns (get_or ns i 0 ∷ drop (i + 1) ns), [])
  front_number s ns i m b is = is ∙ ap (λ l. (dealing_view s ns l, [])) (drop-cons ns i 0 b ∙ ap (λ k. get_or ns i 0 ∷ drop k ns) (next i))
    where
      next : (k : ℕ) → suc k ≡ k + 1
      next k = omega arith

  pub root_dealt : (s : S) (ns : List ℕ) (i : ℕ) (m m' : Me (Option K) (View S E)) → i < length ns → m ≡ (dealing_view s ns (drop i ns), []) → m' ≡ (rest_of m.0, m.1) → m' ≡ (dealing_view s ns (drop (i + 1) ns), [])
  root_dealt s ns i m m' b is e = e ∙ ap (λ (y : Me (Option K) (View S E)). (rest_of y.0, y.1)) (front_number s ns i m b is)

  pub seat_dealt : (s : S) (ns : List ℕ) (i : ℕ) (m w : Me (Option K) (View S E)) → i < length ns → m ≡ (dealing_view s ns (drop i ns), []) → w ≡ (next_of m.0.setting m.0.numbers m.0.seen m.0.to_give, []) → w ≡ (seated (Some s) ns (Some (get_or ns i 0)) [] [], [])
  seat_dealt s ns i m w b is e = e ∙ ap (λ (y : Me (Option K) (View S E)). (next_of y.0.setting y.0.numbers y.0.seen y.0.to_give, [])) (front_number s ns i m b is)

  pub new_sits : (caller_of : E → ℕ) (s : S) (ns : List ℕ) (n : ℕ) (w : Me (Option K) (View S E)) → w ≡ (seated (Some s) ns (Some n) [] [], []) → Sits caller_of n w
  new_sits caller_of s ns n w e = subst (Sits caller_of n) (sym e) record { is = refl; mine = refl }

  -- the passes of the first numbers, and that of the next, which the seat w makes
  pub passes_dealt : (t : TurnstileModel S) (i : ℕ) (table : TableId) (w : Me (Option K) (View S E)) (before after : List (PassModel S E)) → i < length t.numbers → before ≡ map (new_pass t) (take i t.numbers) → table ≡ t.table
      → w ≡ (seated (Some t.setting) t.numbers (Some (get_or t.numbers i 0)) [] [], []) → after ≡ before ++ record { table = table; setting = w.0.setting; number = get_or t.numbers i 0; seen = w.0.seen; mine = w.0.mine } ∷ []
      → after ≡ map (new_pass t) (take (i + 1) t.numbers)
  passes_dealt t i table w before after more front same is more_is =
      let pass : record { table = table; setting = w.0.setting; number = get_or t.numbers i 0; seen = w.0.seen; mine = w.0.mine } ≡ new_pass {S = S} {E = E} t (get_or t.numbers i 0) =
      λ j. record { table = same j; setting = (is j).0.setting; number = get_or t.numbers i 0; seen = (is j).0.seen; mine = (is j).0.mine } in
      more_is ∙ (λ j. front j ++ pass j ∷ []) ∙ sym (map_more (new_pass t) t.numbers i 0 more)
