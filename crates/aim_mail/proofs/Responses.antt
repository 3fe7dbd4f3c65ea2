-- Each step keeps the rule of the channel from the server to one client.
use Rattle.std.proofs.Common.{◌≡◌, ◌≢◌, ℕ, zero, suc, true, false, true≢false, List, [], ◌∷◌, ◌++◌, length, set, sym, refl, ap, ◌∙◌, subst, ⊎_elim, inl, inr, append_assoc, append-nil, arith, Option, Some, None}
use mathlib.Core.Option.{some, some-injective, some-ne-none}
use lib.ListN.{get_elem?}
use Rattle.crossbeam_channel.specs.Fifo.{Pushes, Pops, Forks, Merges, Learns}
use Rattle.atomic_table.proofs.Lists.{at_set}
use Rattle.aim_mail.specs.declared.response.Response.{Response}
use Rattle.aim_mail.specs.declared.slip.Slate.{Slate}
use Rattle.aim_mail.specs.Slips.{IsNext, LawfulAfter, Lawful, kept_from, blank_slate, telling_slate, slate, whole_slate, spent_slate, put_more, heard_more, FitsSlate, Going, Answered}
use Rattle.aim_mail.proofs.Views.{each_set, each_more, each_one}

not_true : false ≡ true → ⊥
not_true e = true≢false (sym e)

-- lawful responses, one more
lawful_behind : (first : Option Response) (before rs : List Response) (r : Response) → LawfulAfter first before rs → IsNext first (before ++ rs) r → LawfulAfter first before (rs ++ r ∷ [])
lawful_behind first before [] r l next = (subst (λ b. IsNext first b r) (append-nil before) next, tt)
lawful_behind first before (x ∷ xs) r l next = (l.0, lawful_behind first (before ++ x ∷ []) xs r l.1 (subst (λ b. IsNext first b r) (sym (append_assoc before (x ∷ []) xs)) next))

pub lawful_more : (first : Option Response) (rs : List Response) (r : Response) → Lawful first rs → IsNext first rs r → Lawful first (rs ++ r ∷ [])
lawful_more first rs r l next = lawful_behind first [] rs r l next

lawful_front_after : (first : Option Response) (before xs ys : List Response) → LawfulAfter first before (xs ++ ys) → LawfulAfter first before xs
lawful_front_after first before [] ys l = tt
lawful_front_after first before (x ∷ xs) ys l = (l.0, lawful_front_after first (before ++ x ∷ []) xs ys l.1)

pub lawful_front : (first : Option Response) (xs ys : List Response) → Lawful first (xs ++ ys) → Lawful first xs
lawful_front first xs ys l = lawful_front_after first [] xs ys l

lawful_last_after : (first : Option Response) (before rs : List Response) (r : Response) → LawfulAfter first before (rs ++ r ∷ []) → IsNext first (before ++ rs) r
lawful_last_after first before [] r l = subst (λ b. IsNext first b r) (sym (append-nil before)) l.0
lawful_last_after first before (x ∷ xs) r l = subst (λ b. IsNext first b r) (append_assoc before (x ∷ []) xs) (lawful_last_after first (before ++ x ∷ []) xs r l.1)

-- what the last of lawful responses says
pub lawful_last : (first : Option Response) (rs : List Response) (r : Response) → Lawful first (rs ++ r ∷ []) → IsNext first rs r
lawful_last first rs r l = lawful_last_after first [] rs r l

pub kept_from-last : (k : ℕ) (rs : List Response) (r : Response) → kept_from k (rs ++ r ∷ []) ≡ r.kept
kept_from-last k [] r = refl
kept_from-last k (x ∷ xs) r = kept_from-last x.kept xs r

only : (v w : Slate) (pass : ℕ) (u : Slate) → get_elem? (u ∷ []) pass ≡ some v → (u ≡ v) × (set (u ∷ []) pass w ≡ w ∷ [])
only v w zero u e = (some-injective u v e, refl)
only v w (suc pass) u e = absurd (some-ne-none v (sym e))

alone : (views : List Slate) (v w : Slate) (pass : ℕ) (u : Slate) → views ≡ u ∷ [] → get_elem? views pass ≡ some v → (u ≡ v) × (set views pass w ≡ w ∷ [])
alone views v w pass u is at = let r = only v w pass u (ap (λ l. get_elem? l pass) (sym is) ∙ at) in (r.0, ap (λ l. set l pass w) is ∙ r.1)

-- a pass that is ready goes by the third part of the rule
going : (items : List Response) (views : List Slate) (pass : ℕ) (v : Slate) → Answered items views → get_elem? views pass ≡ some v → v.ready ≡ true → Going items views
going items views pass v h at is =
    ⊎_elim (λ z. absurd (not_true (ap (λ u. u.ready) (alone views v v pass blank_slate z.1 at).0 ∙ is)))
    (λ y. ⊎_elim (λ (z : (x : Response) × (items ≡ x ∷ []) × (views ≡ telling_slate (Some x) ∷ [])). absurd (not_true (ap (λ u. u.ready) (alone views v v pass (telling_slate (Some z.0)) z.2 at).0 ∙ is))) (λ z. z) y) h

no_items : (x : Response) (items : List Response) → (x ∷ items) ≡ [] → ⊥
no_items x items e = let n = ap length e in absurd (omega (arith, n))

some_none : (x : Response) → ◌≡◌ {A = Option Response} (Some x) None → ⊥
some_none x e = cc

pub starts : Answered [] (blank_slate ∷ [])
starts = inl (refl, refl)

tells : (n pass : ℕ) (x : Response) → Pushes Answered n pass blank_slate x (λ w. w ≡ telling_slate (Some x))
tells n pass x items views room h at =
    let w : Slate = telling_slate (Some x) in
    ⊎_elim (λ (z : (items ≡ []) × (views ≡ blank_slate ∷ [])). (w, inr (inl (x, ap (λ l. l ++ x ∷ []) z.0, (alone views blank_slate w pass blank_slate z.1 at).1)), refl))
    (λ y. ⊎_elim (λ (z : (x : Response) × (items ≡ x ∷ []) × (views ≡ telling_slate (Some x) ∷ [])). absurd (some_none z.0 (ap (λ u. u.first) (alone views blank_slate w pass (telling_slate (Some z.0)) z.2 at).0)))
    (λ (z : Going items views). absurd (not_true ((z.each pass blank_slate at).readied refl))) y) h

pub tells_as : (n pass : ℕ) (v : Slate) (x : Response) → v ≡ blank_slate → Pushes Answered n pass v x (λ w. w ≡ telling_slate (Some x))
tells_as n pass v x is = subst (λ y. Pushes Answered n pass y x (λ w. w ≡ telling_slate (Some x))) (sym is) (tells n pass x)

abbrev rest_of : List Response → List Response
rest_of [] = []
rest_of (x ∷ xs) = xs

hears_first : (pass : ℕ) (first : Option Response) → Pops Answered pass (telling_slate first) (λ x w. w ≡ whole_slate first)
hears_first pass first x items views h at =
    let w : Slate = whole_slate first in
    ⊎_elim (λ (z : ((x ∷ items) ≡ []) × (views ≡ blank_slate ∷ [])). absurd (no_items x items z.0))
    (λ y. ⊎_elim
    (λ (z : (x' : Response) × ((x ∷ items) ≡ x' ∷ []) × (views ≡ telling_slate (Some x') ∷ [])).
    let none : items ≡ [] = ap rest_of z.1 in
    let one : set views pass w ≡ w ∷ [] = (alone views (telling_slate first) w pass (telling_slate (Some z.0)) z.2 at).1 in
    (w, subst (λ (y : List Response × List Slate). Answered y.0 y.1) (λ i. (sym none i, sym one i)) (inr (inr (starts_going first))), refl))
    (λ (z : Going (x ∷ items) views). absurd (not_true ((z.each pass (telling_slate first) at).readied refl))) y) h
  where
    starts_going : (first : Option Response) → Going [] (whole_slate first ∷ [])
    starts_going first = record {
      first = first;
      writer = 0;
      reader = 0;
      put = [];
      heard = [];
      whole = refl;
      lawful = tt;
      each = each_one (FitsSlate first 0 0 [] []) (whole_slate first) record { readied = λ _. refl; firsts = λ _. refl; puts = λ _. (refl, refl); hears = λ _. (refl, refl) };
    }

pub hears_first_as : (pass : ℕ) (v : Slate) → v ≡ telling_slate v.first → Pops Answered pass v (λ x w. w ≡ whole_slate v.first)
hears_first_as pass v is = subst (λ y. Pops Answered pass y (λ x w. w ≡ whole_slate v.first)) (sym is) (hears_first pass v.first)

pub puts : (n pass : ℕ) (v : Slate) (x : Response) → v.puts ≡ true → v.ready ≡ true → Lawful v.first (v.put ++ x ∷ []) → Pushes Answered n pass v x (λ w. w ≡ put_more v x)
puts n pass v x may ready lawful items views room posted at =
    let h = going items views pass v posted at ready in
    let mine = h.each pass v at in
    let put = h.put ++ x ∷ [] in (
      put_more v x,
      inr (inr record {
        first = h.first;
        writer = h.writer;
        reader = h.reader;
        put = put;
        heard = h.heard;
        whole = ap (λ l. l ++ x ∷ []) h.whole ∙ append_assoc h.heard items (x ∷ []);
        lawful = subst (λ (y : Option Response × List Response). Lawful y.0 (y.1 ++ x ∷ [])) (λ i. (mine.firsts ready i, (mine.puts may).1 i)) lawful;
        each = each_set (FitsSlate h.first h.writer h.reader put h.heard) views pass (put_more v x)
            record { readied = mine.readied; firsts = mine.firsts; puts = λ _. ((mine.puts may).0, ap (λ l. l ++ x ∷ []) (mine.puts may).1); hears = mine.hears }
            (λ j u other e. let f = h.each j u e in record { readied = f.readied; firsts = f.firsts; puts = λ p. absurd (other ((f.puts p).0 ∙ sym (mine.puts may).0)); hears = f.hears });
      }),
      refl,
    )

pub hears : (pass : ℕ) (v : Slate) → v.hears ≡ true → v.ready ≡ true → Pops Answered pass v (λ x w. (w ≡ heard_more v x) × Lawful w.first w.heard)
hears pass v may ready x items views posted at =
    let h = going (x ∷ items) views pass v posted at ready in
    let mine = h.each pass v at in
    let heard = h.heard ++ x ∷ [] in
    let whole : h.put ≡ heard ++ items = h.whole ∙ sym (append_assoc h.heard (x ∷ []) items) in
    let known : v.heard ++ x ∷ [] ≡ heard = ap (λ l. l ++ x ∷ []) (mine.hears may).1 in (
      heard_more v x,
      inr (inr record {
        first = h.first;
        writer = h.writer;
        reader = h.reader;
        put = h.put;
        heard = heard;
        whole = whole;
        lawful = h.lawful;
        each = each_set (FitsSlate h.first h.writer h.reader h.put heard) views pass (heard_more v x)
            record { readied = mine.readied; firsts = mine.firsts; puts = mine.puts; hears = λ _. ((mine.hears may).0, known) }
            (λ j u other e. let f = h.each j u e in record { readied = f.readied; firsts = f.firsts; puts = f.puts; hears = λ p. absurd (other ((f.hears p).0 ∙ sym (mine.hears may).0)) });
      }),
      (refl, subst (λ (y : Option Response × List Response). Lawful y.0 y.1) (λ i. (sym (mine.firsts ready) i, sym known i)) (lawful_front h.first heard items (subst (Lawful h.first) whole h.lawful))),
    )

pub parts : (pass : ℕ) (v : Slate) → v.puts ≡ true → v.hears ≡ true → v.ready ≡ true → Forks Answered pass v (slate v.first true v.put false []) (slate v.first false [] true v.heard)
parts pass v a b ready items views posted at =
    let h = going items views pass v posted at ready in
    let mine = h.each pass v at in
    let left : Slate = slate v.first true v.put false [] in
    let vs : List Slate = set views pass left in
    inr (inr record {
      first = h.first;
      writer = h.writer;
      reader = length vs;
      put = h.put;
      heard = h.heard;
      whole = h.whole;
      lawful = h.lawful;
      each = each_more (FitsSlate h.first h.writer (length vs) h.put h.heard) vs (slate v.first false [] true v.heard)
          record { readied = λ _. refl; firsts = λ _. mine.firsts ready; puts = λ p. absurd (not_true p); hears = λ _. (refl, (mine.hears b).1) }
          (each_set (FitsSlate h.first h.writer (length vs) h.put h.heard) views pass left
          record { readied = λ _. refl; firsts = λ _. mine.firsts ready; puts = λ _. mine.puts a; hears = λ p. absurd (not_true p) }
          (λ j u other e. let f = h.each j u e in record { readied = f.readied; firsts = f.firsts; puts = f.puts; hears = λ p. absurd (other ((f.hears p).0 ∙ sym (mine.hears b).0)) }));
    })

pub meets : (pass other : ℕ) (v u : Slate) → v.puts ≡ true → v.ready ≡ true → u.hears ≡ true → Merges Answered pass v other u (slate v.first true v.put true u.heard) spent_slate
meets pass other v u a ready b items views posted at two at' =
    let h = going items views pass v posted at ready in
    let both : Slate = slate v.first true v.put true u.heard in
    let mine = h.each pass v at in
    let vs : List Slate = set views pass both in
    let was : get_elem? views other ≡ some u = ⊎_elim (λ x. absurd (two x.0)) (λ x. x.1) (at_set views pass other both u at') in
    let theirs = (h.each other u was).hears b in
    let F : ℕ → Slate → Type 0 = FitsSlate h.first h.writer pass h.put h.heard in
    let G : ℕ → Slate → Type 0 = λ j y. j ≢ other → F j y in
    inr (inr record {
      first = h.first;
      writer = h.writer;
      reader = pass;
      put = h.put;
      heard = h.heard;
      whole = h.whole;
      lawful = h.lawful;
      each = each_set F vs other spent_slate
          record { readied = λ p. absurd (not_true p); firsts = λ p. absurd (not_true p); puts = λ p. absurd (not_true p); hears = λ p. absurd (not_true p) }
          (λ j y apart e. each_set G views pass both
          (λ _. record { readied = λ _. refl; firsts = λ _. mine.firsts ready; puts = λ _. mine.puts a; hears = λ _. (refl, theirs.1) })
          (λ j' y' other' e' far. let f = h.each j' y' e' in record { readied = f.readied; firsts = f.firsts; puts = f.puts; hears = λ p. absurd (far ((f.hears p).0 ∙ sym theirs.0)) })
          j y e apart);
    })

pub balances : (pass : ℕ) (v : Slate) → v.puts ≡ true → v.hears ≡ true → v.ready ≡ true → Learns Answered pass v (λ items. v.put ≡ v.heard ++ items)
balances pass v a b ready items views posted at =
    let h = going items views pass v posted at ready in
    let mine = h.each pass v at in
    (mine.puts a).1 ∙ h.whole ∙ ap (λ l. l ++ items) (sym (mine.hears b).1)
