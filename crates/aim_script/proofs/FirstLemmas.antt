-- A verdict is of the first line that decides.
use Rattle.std.proofs.Common.{◌≡◌, ◌⊎◌, inl, inr, ℕ, zero, suc, List, [], ◌∷◌, ◌++◌, length, take, slice_get, Some, refl, sym, subst, append-nil}
use Rattle.std.proofs.Math.Seq.{append_snoc}
use Rattle.aim_io.specs.Lines.{Outcome}
use Rattle.aim_messages.specs.declared.script.Line.{Line}
use Rattle.aim_script.specs.declared.decisions.Decision.{Decision}
use Rattle.aim_script.specs.Verdicts.{Judgement, Reads, Verdict, judge, goes_on, decides, at_end, then_on, verdict_from}
use Rattle.aim_script.specs.First.{IsOfTheFirst}

-- from some lines on, a verdict is of the first line that decides
record Follows (reads : Reads) (start : List Line) (input : List Outcome) (v : Verdict) : Type 0 where
  pub more : List Line
  pub all : v.before ≡ start ++ more
  pub each : (k : ℕ) (l : Line) → slice_get more k ≡ Some l →
      (o : Outcome) × (slice_get input k ≡ Some o) × (judge reads (start ++ take k more) o ≡ goes_on l)
  pub decided : ((length more ≡ length input) × (v.decision ≡ at_end (start ++ more)))
      ⊎ ((o : Outcome) × (slice_get input (length more) ≡ Some o) × (judge reads (start ++ more) o ≡ decides v.decision))

some_same : {X : Type 0} (a b : X) → Some a ≡ Some b → a ≡ b
some_same a b p = cc

follows : (reads : Reads) (start : List Line) (input : List Outcome) → Follows reads start input (verdict_from reads start input)
follows reads start [] = record { more = []; all = sym (append-nil start); each = λ k l e. absurd (none k l e); decided = inl (refl, rw (append-nil start) refl) }
  where
    none : (k : ℕ) (l : Line) → slice_get [] k ≡ Some l → ⊥
    none zero l e = cc
    none (suc k) l e = cc
follows reads start (o ∷ os) = go (judge reads start o) refl (λ l. follows reads (start ++ l ∷ []) os)
  where
    none : (k : ℕ) (l : Line) → slice_get [] k ≡ Some l → ⊥
    none zero l e = cc
    none (suc k) l e = cc

    go : (j : Judgement) → judge reads start o ≡ j → ((l : Line) → Follows reads (start ++ l ∷ []) os (verdict_from reads (start ++ l ∷ []) os)) →
        Follows reads start (o ∷ os) (then_on start j (λ more. verdict_from reads more os))
    go (decides d) e later = record { more = []; all = sym (append-nil start); each = λ k l e. absurd (none k l e); decided = inr (o, refl, rw (append-nil start) e) }
    go (goes_on l) e later =
        let r = later l in
        record {
          more = l ∷ r.more;
          all = subst (λ x. (verdict_from reads (start ++ l ∷ []) os).before ≡ x) (append_snoc start l r.more) r.all;
          each = λ k m at. first r.more r.each k m at;
          decided = moved r.more (verdict_from reads (start ++ l ∷ []) os).decision r.decided;
        }
      where
        first : (more : List Line) → ((k : ℕ) (m : Line) → slice_get more k ≡ Some m → (o : Outcome) × (slice_get os k ≡ Some o) × (judge reads ((start ++ l ∷ []) ++ take k more) o ≡ goes_on m)) →
            (k : ℕ) (m : Line) → slice_get (l ∷ more) k ≡ Some m → (p : Outcome) × (slice_get (o ∷ os) k ≡ Some p) × (judge reads (start ++ take k (l ∷ more)) p ≡ goes_on m)
        first more each zero m at = (o, refl, rw (append-nil start, ← some_same l m at) e)
        first more each (suc k) m at = let q = each k m at in (q.0, q.1, rw (append_snoc) at q.2)

        moved : (more : List Line) (d : Decision) →
            ((length more ≡ length os) × (d ≡ at_end ((start ++ l ∷ []) ++ more))) ⊎ ((o : Outcome) × (slice_get os (length more) ≡ Some o) × (judge reads ((start ++ l ∷ []) ++ more) o ≡ decides d)) →
            ((length (l ∷ more) ≡ length (o ∷ os)) × (d ≡ at_end (start ++ l ∷ more))) ⊎ ((p : Outcome) × (slice_get (o ∷ os) (length (l ∷ more)) ≡ Some p) × (judge reads (start ++ l ∷ more) p ≡ decides d))
        moved more d (inl (same, ends)) = inl (rw same refl, rw (← append_snoc start l more) ends)
        moved more d (inr (p, at, judged)) = inr (p, at, rw (← append_snoc start l more) judged)

pub first_that_decides : (reads : Reads) (input : List Outcome) → IsOfTheFirst reads input (verdict_from reads [] input)
first_that_decides reads input = at_start (verdict_from reads [] input) (follows reads [] input)
  where
    at_start : (v : Verdict) → Follows reads [] input v → IsOfTheFirst reads input v
    at_start v f = record { goes_on_at = rw f.all f.each; decided = rw f.all f.decided }
