-- Each step keeps the rule of the channel from the clients to the server.
use Rattle.std.proofs.Common.{◌≡◌, ◌≢◌, ℕ, zero, suc, ◌+◌, ◌<◌, Bool, true, false, true≢false, List, [], ◌∷◌, ◌++◌, length, set, sym, refl, ap, ◌∙◌, subst, ⊎_elim, inl, inr, append_assoc, arith, Option, Some, None, append-nil, lt_of_not-le}
use Rattle.std.specs.Prelude.{◌==◌, if◌then◌else◌}
use Rattle.std.proofs.lemmas.List.Elements.{filter-append}
use Rattle.std.proofs.lemmas.Bool.Decides.{nat_tests}
use mathlib.Core.Option.{some, some-injective, some-ne-none}
use lib.ListN.{get_elem?}
use Rattle.crossbeam_channel.specs.Fifo.{Pushes, Pops, Forks, Merges, Learns}
use Rattle.atomic_table.proofs.Lists.{at_set}
use Rattle.aim_mail.specs.declared.letter.Letter.{Letter}
use Rattle.aim_mail.specs.declared.letter.MailSetting.{MailSetting}
use Rattle.aim_mail.specs.declared.post.Hand.{Hand}
use Rattle.aim_mail.specs.Post.{Every, of, client, reader, nobody, sent_more, got_more, taken_in, Settled, Fits, Running, Posted, IsFor, told, blank, telling, client_at, note, heeded, Begun}
use Rattle.aim_mail.proofs.Views.{each_set, each_more, each_one}

module _ {A : Type 0} where
  pub Every-map : (P Q : A → Type 0) (xs : List A) → ((x : A) → P x → Q x) → Every P xs → Every Q xs
  Every-map P Q [] f h = tt
  Every-map P Q (x ∷ xs) f h = (f x h.0, Every-map P Q xs f h.1)

  pub Every-append : (P : A → Type 0) (xs ys : List A) → Every P xs → Every P ys → Every P (xs ++ ys)
  Every-append P [] ys h k = k
  Every-append P (x ∷ xs) ys h k = (h.0, Every-append P xs ys h.1 k)

if_not : (b : Bool) (x : Letter) → b ≡ false → (if b then x ∷ [] else []) ≡ []
if_not b x is = ap (λ c. if c then x ∷ [] else []) is

if_so : (b : Bool) (x : Letter) → b ≡ true → (if b then x ∷ [] else []) ≡ x ∷ []
if_so b x is = ap (λ c. if c then x ∷ [] else []) is

one_else : (p : ℕ) (x : Letter) → p ≢ x.from → of p (x ∷ []) ≡ []
one_else p x other = let no_test : (x.from == p) ≡ false = grind (arith, nat_tests, other) in if_not (x.from == p) x no_test

one_own : (p : ℕ) (x : Letter) → x.from ≡ p → of p (x ∷ []) ≡ x ∷ []
one_own p x is = let test : (x.from == p) ≡ true = grind (arith, nat_tests, is) in if_so (x.from == p) x test

pub of-append : (p : ℕ) (xs ys : List Letter) → of p (xs ++ ys) ≡ of p xs ++ of p ys
of-append p xs ys = filter-append (λ l. l.from == p) xs ys

pub of_else : (p : ℕ) (xs : List Letter) (x : Letter) → p ≢ x.from → of p (xs ++ x ∷ []) ≡ of p xs
of_else p xs x other = of-append p xs (x ∷ []) ∙ ap (λ l. of p xs ++ l) (one_else p x other) ∙ append-nil (of p xs)

pub of_own : (p : ℕ) (xs : List Letter) (x : Letter) → x.from ≡ p → of p (xs ++ x ∷ []) ≡ of p xs ++ x ∷ []
of_own p xs x is = of-append p xs (x ∷ []) ∙ ap (λ l. of p xs ++ l) (one_own p x is)

taken : (pass j : ℕ) (o : Option ℕ) → o ≡ Some pass → o ≡ Some j → j ≡ pass
taken pass j o a b = cc

not_taken : (pass : ℕ) (o : Option ℕ) → o ≡ Some pass → o ≡ None → ⊥
not_taken pass o a b = cc

none_some : (p : ℕ) → ◌≡◌ {A = Option ℕ} None (Some p) → ⊥
none_some p e = cc

same_some : (p q : ℕ) → ◌≡◌ {A = Option ℕ} (Some p) (Some q) → q ≡ p
same_some p q e = cc

not_gets : false ≡ true → ⊥
not_gets e = true≢false (sym e)

pub begins : Posted [] (blank ∷ [])
begins = inl (refl, refl)

only : (v w : Hand) (pass : ℕ) (u : Hand) → get_elem? (u ∷ []) pass ≡ some v → (u ≡ v) × (set (u ∷ []) pass w ≡ w ∷ [])
only v w zero u e = (some-injective u v e, refl)
only v w (suc pass) u e = absurd (some-ne-none v (sym e))

alone : (views : List Hand) (v w : Hand) (pass : ℕ) (u : Hand) → views ≡ u ∷ [] → get_elem? views pass ≡ some v → (u ≡ v) × (set views pass w ≡ w ∷ [])
alone views v w pass u is at = let r = only v w pass u (ap (λ l. get_elem? l pass) (sym is) ∙ at) in (r.0, ap (λ l. set l pass w) is ∙ r.1)

-- a pass that is ready runs
running : (items : List Letter) (views : List Hand) (pass : ℕ) (v : Hand) → Posted items views → get_elem? views pass ≡ some v → v.ready ≡ true → Running items views
running items views pass v h at is =
    ⊎_elim (λ z. absurd (not_gets (ap (λ u. u.ready) (alone views v v pass blank z.1 at).0 ∙ is)))
    (λ y. ⊎_elim (λ (z : (x : Letter) × (items ≡ x ∷ []) × (views ≡ telling (told x.word) ∷ [])). absurd (not_gets (ap (λ u. u.ready) (alone views v v pass (telling (told z.0.word)) z.2 at).0 ∙ is))) (λ z. z) y) h

no_items : (x : Letter) (items : List Letter) → (x ∷ items) ≡ [] → ⊥
no_items x items e = let n = ap length e in absurd (omega (arith, n))

pub tells : (n pass : ℕ) (x : Letter) → Pushes Posted n pass blank x (λ w. w ≡ telling (told x.word))
tells n pass x items views room h at =
    let w : Hand = telling (told x.word) in
    ⊎_elim (λ (z : (items ≡ []) × (views ≡ blank ∷ [])). (w, inr (inl (x, ap (λ l. l ++ x ∷ []) z.0, (alone views blank w pass blank z.1 at).1)), refl))
    (λ y. ⊎_elim (λ (z : (x : Letter) × (items ≡ x ∷ []) × (views ≡ telling (told x.word) ∷ [])). absurd (true≢false (ap (λ u. u.told) (alone views blank w pass (telling (told z.0.word)) z.2 at).0)))
    (λ (z : Running items views). absurd (not_gets (z.each pass blank at).told)) y) h

abbrev rest_letters : List Letter → List Letter
rest_letters [] = []
rest_letters (x ∷ xs) = xs

pub hears_opening : (pass : ℕ) (g : Option MailSetting) → Pops Posted pass (telling g) (λ x w. w ≡ reader g [] 0 [])
hears_opening pass g x items views h at =
    let w : Hand = reader g [] 0 [] in
    ⊎_elim (λ (z : ((x ∷ items) ≡ []) × (views ≡ blank ∷ [])). absurd (no_items x items z.0))
    (λ y. ⊎_elim
    (λ (z : (x' : Letter) × ((x ∷ items) ≡ x' ∷ []) × (views ≡ telling (told x'.word) ∷ [])).
    let none : items ≡ [] = ap rest_letters z.1 in
    let one : set views pass w ≡ w ∷ [] = (alone views (telling g) w pass (telling (told z.0.word)) z.2 at).1 in
    (w, subst (λ (y : List Letter × List Hand). Posted y.0 y.1) (λ i. (sym none i, sym one i)) (inr (inr (starts_running g))), refl))
    (λ (z : Running (x ∷ items) views). absurd (not_gets ((z.each pass (telling g) at).readied refl))) y) h
  where
    starts_running : (g : Option MailSetting) → Running [] (reader g [] 0 [] ∷ [])
    starts_running g = record {
      setting = g;
      servable = tt;
      seat = λ _. None;
      boss = 0;
      got = [];
      all = [];
      whole = refl;
      each = each_one (Fits g (λ _. None) 0 [] []) (reader g [] 0 []) record { told = refl; readied = λ _. refl; settings = λ _. refl; begins = ([], refl); sender = λ p e. absurd (none_some p e); reads = λ _. record { place = refl; whole = refl; later = λ p _. (refl, refl); ended = tt; apart = tt } };
    }

-- a letter more is one more of its sender's alone
more_else : (setting : Option MailSetting) (seat : ℕ → Option ℕ) (boss : ℕ) (got all : List Letter) (x : Letter) (pass j : ℕ) (u : Hand) → seat x.from ≡ Some pass → j ≢ pass → Fits setting seat boss got all j u → Fits setting seat boss got (all ++ x ∷ []) j u
more_else setting seat boss got all x pass j u has other h = record {
  told = h.told;
  readied = h.readied;
  settings = h.settings;
  begins = h.begins;
  sender = λ p e. let s = h.sender p e in (s.0, s.1 ∙ sym (of_else p all x (λ is. other (taken pass j (seat p) (ap seat is ∙ has) s.0))));
  reads = λ g. let r = h.reads g in record {
    place = r.place;
    whole = r.whole;
    later = λ p m. let l = r.later p m in (l.0, of_else p all x (λ is. not_taken pass (seat p) (ap seat is ∙ has) l.0) ∙ l.1);
    ended = Every-map _ _ u.known (λ k e. (e.0, e.1, of_else k.0 all x (λ is. not_taken pass (seat k.0) (ap seat is ∙ has) e.1) ∙ e.2)) r.ended;
    apart = r.apart;
  };
}

sends : (n pass : ℕ) (g : Option MailSetting) (p : ℕ) (sent seen : List Letter) (x : Letter) → x.from ≡ p → IsFor g x.word → Pushes Posted n pass (client_at g p sent seen) x (λ w. w ≡ sent_more (client_at g p sent seen) x)
sends n pass g p sent seen x is fits items views room posted at =
    let h = running items views pass (client_at g p sent seen) posted at refl in
    let f = h.each pass (client_at g p sent seen) at in
    let mine = f.sender p refl in
    let F : ℕ → Hand → Type 0 = Fits h.setting h.seat h.boss h.got (h.all ++ x ∷ []) in (
      client_at g p (sent ++ x ∷ []) seen,
      inr (inr record {
        setting = h.setting;
        servable = Every-append _ items (x ∷ []) h.servable (subst (λ k. IsFor k x.word) (f.settings refl) fits, tt);
        seat = h.seat;
        boss = h.boss;
        got = h.got;
        all = h.all ++ x ∷ [];
        whole = ap (λ l. l ++ x ∷ []) h.whole ∙ append_assoc h.got items (x ∷ []);
        each = each_set F views pass (client_at g p (sent ++ x ∷ []) seen)
            record {
              told = refl;
              readied = λ _. refl;
              settings = f.settings;
              begins = f.begins;
              sender = λ q e. let s : q ≡ p = same_some p q e in (ap h.seat s ∙ mine.0, ap (λ l. l ++ x ∷ []) mine.1 ∙ sym (of_own p h.all x is) ∙ ap (λ r. of r (h.all ++ x ∷ [])) (sym s));
              reads = λ g. absurd (not_gets g);
            }
            (λ j u other e. more_else h.setting h.seat h.boss h.got h.all x pass j u (ap h.seat is ∙ mine.0) other (h.each j u e));
      }),
      refl,
    )

pub sends_as : (n pass : ℕ) (g : Option MailSetting) (v : Hand) (sent seen : List Letter) (x : Letter) → v ≡ client_at g x.from sent seen → IsFor g x.word → Pushes Posted n pass v x (λ w. w ≡ sent_more v x)
sends_as n pass g v sent seen x is fits = subst (λ y. Pushes Posted n pass y x (λ w. w ≡ sent_more y x)) (sym is) (sends n pass g x.from sent seen x refl fits)

-- a receive changes what the server's pass knows alone
got_else : (setting : Option MailSetting) (seat : ℕ → Option ℕ) (boss : ℕ) (got all : List Letter) (x : Letter) (j : ℕ) (u : Hand) → j ≢ boss → Fits setting seat boss got all j u → Fits setting seat boss (got ++ x ∷ []) all j u
got_else setting seat boss got all x j u other h = record { told = h.told; readied = h.readied; settings = h.settings; begins = (h.begins.0 ++ x ∷ [], ap (λ l. l ++ x ∷ []) h.begins.1 ∙ append_assoc u.got h.begins.0 (x ∷ [])); sender = h.sender; reads = λ g. absurd (other (h.reads g).place) }

no_nil : (xs : List Letter) (x : Letter) (ys : List Letter) → xs ++ (x ∷ ys) ≡ [] → ⊥
no_nil [] x ys e = let l = ap length e in absurd (omega (arith, l))
no_nil (z ∷ xs) x ys e = let l = ap length e in absurd (omega (arith, l))

of_made : (got : List Letter) (x : Letter) (items all : List Letter) → all ≡ got ++ (x ∷ items) → of x.from all ≡ [] → ⊥
of_made got x items all whole none =
    let p : ℕ = x.from in
    no_nil (of p got) x (of p items)
    (ap (λ l. of p got ++ (l ++ of p items)) (sym (one_own p x refl)) ∙ ap (λ l. of p got ++ l) (sym (of-append p (x ∷ []) items)) ∙ sym (of-append p got (x ∷ items)) ∙ ap (of p) (sym whole) ∙ none)

pub gets : (pass : ℕ) (v : Hand) → v ≡ reader v.setting v.got v.made v.known → Pops Posted pass v (λ x w. (w ≡ got_more v x) × (x.from < v.made) × IsFor v.setting x.word)
gets pass v is x items views posted at =
    let h = running (x ∷ items) views pass v posted at (ap (λ u. u.ready) is) in
    let f = h.each pass v at in
    let r = f.reads (ap (λ u. u.gets) is) in
    let new = h.got ++ x ∷ [] in
    let F : ℕ → Hand → Type 0 = Fits h.setting h.seat h.boss new h.all in (
      got_more v x,
      inr (inr record {
        setting = h.setting;
        servable = h.servable.1;
        seat = h.seat;
        boss = h.boss;
        got = new;
        all = h.all;
        whole = h.whole ∙ sym (append_assoc h.got (x ∷ []) items);
        each = each_set F views pass (got_more v x)
            record { told = f.told; readied = f.readied; settings = f.settings; begins = ([], sym (append-nil (v.got ++ x ∷ []) ∙ ap (λ l. l ++ x ∷ []) r.whole)); sender = f.sender; reads = λ _. record { place = r.place; whole = ap (λ l. l ++ x ∷ []) r.whole; later = r.later; ended = r.ended; apart = r.apart } }
            (λ j u other e. got_else h.setting h.seat h.boss h.got h.all x j u (λ b. other (b ∙ sym r.place)) (h.each j u e));
      }),
      (refl, lt_of_not-le (λ m. of_made h.got x items h.all h.whole (r.later x.from m).1), subst (λ k. IsFor k x.word) (sym (f.settings (ap (λ u. u.ready) is))) h.servable.0),
    )

-- a seat function with one client's pass changed
abbrev with_seat : (ℕ → Option ℕ) → ℕ → Option ℕ → ℕ → Option ℕ
with_seat seat p o q = if q == p then o else seat q

seat_here : (seat : ℕ → Option ℕ) (p q : ℕ) (o : Option ℕ) → q ≡ p → with_seat seat p o q ≡ o
seat_here seat p q o is = let test : (q == p) ≡ true = grind (arith, nat_tests, is) in ap (λ b. if b then o else seat q) test

seat_else : (seat : ℕ → Option ℕ) (p q : ℕ) (o : Option ℕ) → q ≢ p → with_seat seat p o q ≡ seat q
seat_else seat p q o other = let test : (q == p) ≡ false = grind (arith, nat_tests, other) in ap (λ b. if b then o else seat q) test

seat_none : (seat : ℕ → Option ℕ) (p q : ℕ) → seat q ≡ None → with_seat seat p None q ≡ None
seat_none seat p q is = ap (λ z. if q == p then None else z) is ∙ both_none (q == p)
  where
    both_none : (b : Bool) → ◌≡◌ {A = Option ℕ} (if b then None else None) None
    both_none true = refl
    both_none false = refl

hires : (pass : ℕ) (v : Hand) → v ≡ reader v.setting v.got v.made v.known → Forks Posted pass v (reader v.setting v.got (v.made + 1) v.known) (client v.setting v.made [])
hires pass v is items views posted at =
    let h = running items views pass v posted at (ap (λ u. u.ready) is) in
    let settings = (h.each pass v at).settings (ap (λ u. u.ready) is) in
    let r = (h.each pass v at).reads (ap (λ u. u.gets) is) in
    let left : Hand = reader v.setting v.got (v.made + 1) v.known in
    let vs : List Hand = set views pass left in
    let mine = r.later v.made (omega arith) in
    let seat : ℕ → Option ℕ = with_seat h.seat v.made (Some (length vs)) in
    let F : ℕ → Hand → Type 0 = Fits h.setting seat h.boss h.got h.all in
    inr (inr record {
      setting = h.setting;
      servable = h.servable;
      seat = seat;
      boss = h.boss;
      got = h.got;
      all = h.all;
      whole = h.whole;
      each = each_more F vs (client v.setting v.made [])
          record {
            told = refl;
            readied = λ _. refl;
            settings = λ _. settings;
            begins = (h.got, refl);
            sender = λ q e. let s : q ≡ v.made = same_some v.made q e in (seat_here h.seat v.made q _ s, sym (ap (λ z. of z h.all) s ∙ mine.1));
            reads = λ g. absurd (not_gets g);
          }
          (each_set F views pass left
          record {
            told = refl;
            readied = λ _. refl;
            settings = λ _. settings;
            begins = (h.each pass v at).begins;
            sender = λ q e. absurd (none_some q e);
            reads = λ _. record {
              place = r.place;
              whole = r.whole;
              later = λ q m. let l = r.later q (omega (arith, m)) in (seat_else h.seat v.made q _ (λ s. omega (arith, m, s)) ∙ l.0, l.1);
              ended = Every-map _ _ v.known (λ k e. (omega (arith, e.0), seat_else h.seat v.made k.0 _ (λ s. omega (arith, e.0, s)) ∙ e.1, e.2)) r.ended;
              apart = r.apart;
            };
          }
          (λ j u other e. let f = h.each j u e in record {
            told = f.told;
            readied = f.readied;
            settings = f.settings;
            begins = f.begins;
            sender = λ q t. let s = f.sender q t in (seat_else h.seat v.made q _ (λ z. not_taken j (h.seat q) s.0 (ap h.seat z ∙ mine.0)) ∙ s.0, s.1);
            reads = λ g. absurd (other ((f.reads g).place ∙ sym r.place));
          }));
    })

pub hires_as : (pass : ℕ) (v : Hand) → v ≡ reader v.setting v.got v.made v.known → Forks Posted pass v (reader v.setting v.got (v.made + 1) v.known) (client v.setting v.made [])
hires_as pass v is = hires pass v is

takes : (pass other : ℕ) (g : Option MailSetting) (p : ℕ) (v : Hand) (sent seen : List Letter) → v ≡ reader v.setting v.got v.made v.known
    → Merges Posted pass v other (client_at g p sent seen) (taken_in v (client_at g p sent seen)) nobody
takes pass other g p v sent seen is items views posted at two at' =
    let h = running items views pass v posted at (ap (λ u. u.ready) is) in
    let settings = (h.each pass v at).settings (ap (λ u. u.ready) is) in
    let r = (h.each pass v at).reads (ap (λ u. u.gets) is) in
    let both : Hand = reader v.setting v.got v.made ((p, sent) ∷ v.known) in
    let vs : List Hand = set views pass both in
    let was : get_elem? views other ≡ some (client_at g p sent seen) = ⊎_elim (λ x. absurd (two x.0)) (λ x. x.1) (at_set views pass other both (client_at g p sent seen) at') in
    let theirs = (h.each other (client_at g p sent seen) was).sender p refl in
    let seat : ℕ → Option ℕ = with_seat h.seat p None in
    let F : ℕ → Hand → Type 0 = Fits h.setting seat h.boss h.got h.all in
    let G : ℕ → Hand → Type 0 = λ j u. j ≢ other → F j u in
    inr (inr record {
      setting = h.setting;
      servable = h.servable;
      seat = seat;
      boss = h.boss;
      got = h.got;
      all = h.all;
      whole = h.whole;
      each = each_set F vs other nobody
          record { told = refl; readied = λ e. absurd (not_gets e); settings = λ e. absurd (not_gets e); begins = (h.got, refl); sender = λ q e. absurd (none_some q e); reads = λ e. absurd (not_gets e) }
          (λ j u apart e. each_set G views pass both
          (λ _. record {
            told = refl;
            readied = λ _. refl;
            settings = λ _. settings;
            begins = (h.each pass v at).begins;
            sender = λ q t. absurd (none_some q t);
            reads = λ _. record {
              place = r.place;
              whole = r.whole;
              later = λ q m. let l = r.later q m in (seat_none h.seat p q l.0, l.1);
              ended = (
                (lt_of_not-le (λ m. not_taken other (h.seat p) theirs.0 (r.later p m).0), seat_here h.seat p p None refl, sym theirs.1),
                Every-map _ _ v.known (λ k e. (e.0, seat_none h.seat p k.0 e.1, e.2)) r.ended,
              );
              apart = (Every-map _ _ v.known (λ k e is. not_taken other (h.seat p) theirs.0 (ap h.seat (sym is) ∙ e.1)) r.ended, r.apart);
            };
          })
          (λ j' u' other' e' far. let f = h.each j' u' e' in record {
            told = f.told;
            readied = f.readied;
            settings = f.settings;
            begins = f.begins;
            sender = λ q t. let s = f.sender q t in (seat_else h.seat p q None (λ z. far (taken other j' (h.seat q) (ap h.seat z ∙ theirs.0) s.0)) ∙ s.0, s.1);
            reads = λ g. absurd (other' ((f.reads g).place ∙ sym r.place));
          })
          j u e apart);
    })

pub takes_as : (pass other : ℕ) (g : Option MailSetting) (p : ℕ) (v w : Hand) (sent seen : List Letter) → v ≡ reader v.setting v.got v.made v.known → w ≡ client_at g p sent seen
    → Merges Posted pass v other w (taken_in v w) nobody
takes_as pass other g p v w sent seen is isw = subst (λ y. Merges Posted pass v other y (taken_in v y) nobody) (sym isw) (takes pass other g p v sent seen is)

pub settles : (pass : ℕ) (v : Hand) → v ≡ reader v.setting v.got v.made v.known → Learns Posted pass v (λ items. Settled v.got v.known items)
settles pass v is items views posted at =
    let h = running items views pass v posted at (ap (λ u. u.ready) is) in
    let r = (h.each pass v at).reads (ap (λ u. u.gets) is) in
    (Every-map _ _ v.known (λ k e. ap (of k.0) (ap (λ l. l ++ items) r.whole ∙ sym h.whole) ∙ e.2) r.ended, r.apart)

pub hears_opening_as : (pass : ℕ) (v : Hand) → v ≡ telling v.setting → Pops Posted pass v (λ x w. w ≡ reader v.setting [] 0 [])
hears_opening_as pass v is = subst (λ y. Pops Posted pass y (λ x w. w ≡ reader v.setting [] 0 [])) (sym is) (hears_opening pass v.setting)

pub notes : (pass : ℕ) (v : Hand) → v ≡ reader v.setting v.got v.made v.known → Forks Posted pass v v (note v.setting v.got)
notes pass v is items views posted at =
    let h = running items views pass v posted at (ap (λ u. u.ready) is) in
    let f = h.each pass v at in
    let F : ℕ → Hand → Type 0 = Fits h.setting h.seat h.boss h.got h.all in
    inr (inr record {
      setting = h.setting;
      servable = h.servable;
      seat = h.seat;
      boss = h.boss;
      got = h.got;
      all = h.all;
      whole = h.whole;
      each = each_more F (set views pass v) (note v.setting v.got)
          record { told = refl; readied = λ e. absurd (not_gets e); settings = λ _. f.settings (ap (λ u. u.ready) is); begins = f.begins; sender = λ q e. absurd (none_some q e); reads = λ e. absurd (not_gets e) }
          (each_set F views pass v f (λ j u _ e. h.each j u e));
    })

heeds : (pass other : ℕ) (g : Option MailSetting) (p : ℕ) (k : Option MailSetting) (sent seen got : List Letter) → Merges Posted pass (client_at g p sent seen) other (note k got) (client_at g p sent got) nobody
heeds pass other g p k sent seen got items views posted at two at' =
    let h = running items views pass (client_at g p sent seen) posted at refl in
    let f = h.each pass (client_at g p sent seen) at in
    let both : Hand = client_at g p sent got in
    let was : get_elem? views other ≡ some (note k got) = ⊎_elim (λ x. absurd (two x.0)) (λ x. x.1) (at_set views pass other both (note k got) at') in
    let theirs = h.each other (note k got) was in
    let F : ℕ → Hand → Type 0 = Fits h.setting h.seat h.boss h.got h.all in
    inr (inr record {
      setting = h.setting;
      servable = h.servable;
      seat = h.seat;
      boss = h.boss;
      got = h.got;
      all = h.all;
      whole = h.whole;
      each = each_set F (set views pass both) other nobody
          record { told = refl; readied = λ e. absurd (not_gets e); settings = λ e. absurd (not_gets e); begins = (h.got, refl); sender = λ q e. absurd (none_some q e); reads = λ e. absurd (not_gets e) }
          (λ j u _ e. each_set F views pass both
          record { told = refl; readied = λ _. refl; settings = f.settings; begins = theirs.begins; sender = f.sender; reads = λ e. absurd (not_gets e) }
          (λ j' u' _ e'. h.each j' u' e') j u e);
    })

pub heeds_as : (pass other : ℕ) (g : Option MailSetting) (p : ℕ) (k : Option MailSetting) (v w : Hand) (sent seen got : List Letter) → v ≡ client_at g p sent seen → w ≡ note k got → Merges Posted pass v other w (heeded v w) nobody
heeds_as pass other g p k v w sent seen got isv isw =
    subst (λ (y : Hand × Hand). Merges Posted pass y.0 other y.1 (heeded y.0 y.1) nobody) (λ i. (sym isv i, sym isw i)) (heeds pass other g p k sent seen got)

begun : (pass : ℕ) (g : Option MailSetting) (p : ℕ) (sent seen : List Letter) → Learns Posted pass (client_at g p sent seen) (λ items. (rest : List Letter) × (sent ≡ of p seen ++ rest))
begun pass g p sent seen items views posted at =
    let h = running items views pass (client_at g p sent seen) posted at refl in
    let f = h.each pass (client_at g p sent seen) at in
    let b = f.begins in
    (of p (b.0 ++ items), (f.sender p refl).1 ∙ ap (of p) (h.whole ∙ ap (λ l. l ++ items) b.1 ∙ append_assoc seen b.0 items) ∙ of-append p seen (b.0 ++ items))

pub begun_as : (pass : ℕ) (g : Option MailSetting) (p : ℕ) (v : Hand) (sent seen : List Letter) → v ≡ client_at g p sent seen → Learns Posted pass v (λ items. Begun v.from v.sent v.got)
begun_as pass g p v sent seen is = subst (λ y. Learns Posted pass y (λ items. Begun y.from y.sent y.got)) (sym is) (begun pass g p sent seen)
