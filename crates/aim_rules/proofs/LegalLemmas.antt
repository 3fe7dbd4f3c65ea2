-- A legal history goes on with an answer.
use Rattle.std.proofs.Common.{◌≡◌, ℕ, ◌<◌, ◌≤◌, List, [], ◌∷◌, ◌++◌, length, take, get_or, map, arith, refl, sym, ap, ◌∙◌, length-append, append-nil, fold}
use Rattle.std.proofs.lemmas.List.{take-append-le, get_or_append_left}
use Rattle.std.proofs.Math.Seq.{take-append_seam, get_or-append_seam, append_snoc}
use Rattle.std.proofs.Math.Decide.{dec_lt}
use Rattle.aim_messages.specs.declared.entries.Entry.{Entry}
use Rattle.aim_layout.specs.Intersection.{Intersection}
use Rattle.aim_rules.specs.Legal.{IsLegal, IsWellFormed, IsAnswered}
use Rattle.aim_rules.specs.Journals.{MayCall, Call, call_of, entry_of, journal}

-- a fact of each entry, with those before it
pub each-append : (P : List Entry → Entry → Type 0) (h : List Entry) (e : Entry) →
    ((k : ℕ) (d : Entry) → k < length h → P (take k h) (get_or h k d)) → P h e →
    (k : ℕ) (d : Entry) → k < length (h ++ e ∷ []) → P (take k (h ++ e ∷ [])) (get_or (h ++ e ∷ []) k d)
each-append P h e earlier now k d l = elim (dec_lt k (length h)) [
  | yes b ↦ (let le : k ≤ length h = omega arith in rw (take-append-le k h (e ∷ []) le, get_or_append_left) (earlier k d b))
  | no n ↦ (let at : k ≡ length h = omega (arith, length-append h (e ∷ [])) in rw (at, take-append_seam, get_or-append_seam) now)
]

-- A legal history goes on with a well-formed entry whose reply is the answer.
pub IsLegal-append : (i : Intersection) (vehicles : ℕ) (h : List Entry) (e : Entry) → IsLegal i vehicles h → IsWellFormed i vehicles e → IsAnswered i h e → IsLegal i vehicles (h ++ e ∷ [])
IsLegal-append i vehicles h e legal w a = record {
  well_formed = each-append (λ _. IsWellFormed i vehicles) h e legal.well_formed w;
  answered = each-append (IsAnswered i) h e legal.answered a;
}

IsLegal-none : (i : Intersection) (vehicles : ℕ) → IsLegal i vehicles []
IsLegal-none i vehicles = record { well_formed = λ k d l. absurd (omega arith); answered = λ k d l. absurd (omega arith) }

IsLegal-fold : (i : Intersection) (vehicles : ℕ) (h : List Entry) (calls : List Call) → IsLegal i vehicles h → MayCall i vehicles calls → IsLegal i vehicles (fold (λ h c. h ++ entry_of i h c ∷ []) h calls)
IsLegal-fold i vehicles h [] legal may = legal
IsLegal-fold i vehicles h (c ∷ calls) legal may =
    IsLegal-fold i vehicles (h ++ entry_of i h c ∷ []) calls
    (IsLegal-append i vehicles h (entry_of i h c) legal (record { moment = may.0.0; caller = may.0.1 }) refl) may.1

-- the journal of calls that may be made is legal
pub IsLegal-journal : (i : Intersection) (vehicles : ℕ) (calls : List Call) → MayCall i vehicles calls → IsLegal i vehicles (journal i calls)
IsLegal-journal i vehicles calls may = IsLegal-fold i vehicles [] calls (IsLegal-none i vehicles) may

-- a legal history but for its last entry
pub IsLegal-before : (i : Intersection) (vehicles : ℕ) (h more : List Entry) → IsLegal i vehicles (h ++ more) → IsLegal i vehicles h
IsLegal-before i vehicles h more legal = record {
  well_formed = λ k d l. let m : k < length (h ++ more) = omega (arith, length-append h more) in rw (get_or_append_left) at (legal.well_formed k d m);
  answered = λ k d l. let m : k < length (h ++ more) = omega (arith, length-append h more) in let le : k ≤ length h = omega arith in rw (take-append-le k h more le, get_or_append_left) at (legal.answered k d m);
}

entry_again : (i : Intersection) (h : List Entry) (e : Entry) → IsAnswered i h e → entry_of i h (call_of e) ≡ e
entry_again i h e a = rw (← a) refl

-- an entry of a legal history has the answer after those before it
answered_at : (i : Intersection) (vehicles : ℕ) (h : List Entry) (e : Entry) (es : List Entry) → IsLegal i vehicles (h ++ e ∷ es) → IsAnswered i h e
answered_at i vehicles h e es legal =
    let l : length h < length (h ++ e ∷ es) = omega (arith, length-append h (e ∷ es)) in
    rw (take-append_seam, get_or-append_seam) at (legal.answered (length h) e l)

-- going on from a beginning, the calls of a legal history give the rest of it
journal_from : (i : Intersection) (vehicles : ℕ) (h es : List Entry) → IsLegal i vehicles (h ++ es) → fold (λ h c. h ++ entry_of i h c ∷ []) h (map call_of es) ≡ h ++ es
journal_from i vehicles h [] legal = sym (append-nil h)
journal_from i vehicles h (e ∷ es) legal =
    let again = entry_again i h e (answered_at i vehicles h e es legal) in
    let moved : (h ++ e ∷ []) ++ es ≡ h ++ e ∷ es = append_snoc h e es in
    ap (λ x. fold (λ h c. h ++ entry_of i h c ∷ []) (h ++ x ∷ []) (map call_of es)) again
    ∙ (journal_from i vehicles (h ++ e ∷ []) es (rw (← moved) at legal) ∙ moved)

pub legal_journal : (i : Intersection) (vehicles : ℕ) (h : List Entry) → IsLegal i vehicles h → journal i (map call_of h) ≡ h
legal_journal i vehicles h legal = journal_from i vehicles [] h legal
