-- What a loop over the lines of an input keeps.
use Rattle.std.proofs.Common.{◌≡◌, ◌≢◌, ℕ, true, false, List, [], ◌∷◌, ◌++◌, Some, None, Ok, Err, IfSome, refl, sym, ap, ◌∙◌, subst}
use Rattle.std.proofs.lemmas.Bool.{ne_eqb}
use Rattle.std.proofs.lemmas.List.{append_assoc}
use Rattle.std.proofs.KnownBytes.{Consumes-nil, Consumes-trans, Consumes-kept}
use Rattle.std.specs.declared.option.Option.{Option}
use Rattle.std.specs.List.{AllByRecursion}
use Rattle.std.specs.Io.KnownBytes.{Consumes, Keeps, prepend_known}
use Rattle.aim_io.specs.declared.lines.LineFault.{LineFault}
use Rattle.aim_io.specs.declared.lines.LineFault.TheVariants.{Read, Long, Bytes, Lines}
use Rattle.aim_io.specs.Known.{WhereKnown}
use Rattle.aim_io.specs.Lines.{InputFault, LongLine, TooManyBytes, TooManyLines, fault_of, Outcome, Line, Stop, HasNoEnd, joined_lines, whole_lines}
use Rattle.aim_io.specs.Reader.{Reader, input, coming, Answers, Needed}
use Rattle.aim_io.specs.Taken.{TookLines, TookWhole, LastNeeded}
use Rattle.aim_io.proofs.LinesLemmas.{outcomes_none}

-- ---- what is still to come decides the same as all

-- after a line, if the loop goes on from F to G with it
pub decides_line : {X : Type 0} (F G : List Outcome → X) (whole : List ℕ → X) (old new : Reader) (all before after : Option (List ℕ))
    → ((more : List Outcome) → F (Line new.line ∷ more) ≡ G more)
    → WhereKnown all before (λ bytes rest. F (coming old rest) ≡ whole bytes)
    → Answers old new before after (Ok true)
    → WhereKnown all after (λ bytes rest. G (coming new rest) ≡ whole bytes)
decides_line F G whole old new None before after goes decides answers = tt
decides_line F G whole old new (Some bytes) None after goes decides answers = absurd decides
decides_line F G whole old new (Some bytes) (Some rest) None goes decides answers = absurd answers
decides_line F G whole old new (Some bytes) (Some rest) (Some last) goes decides answers =
    sym (goes (coming new last)) ∙ sym (ap F answers) ∙ decides

-- after a line that ends the loop
pub decided_line : {X : Type 0} (F : List Outcome → X) (whole : List ℕ → X) (answer : X) (old new : Reader) (all before after : Option (List ℕ))
    → ((more : List Outcome) → F (Line new.line ∷ more) ≡ answer)
    → WhereKnown all before (λ bytes rest. F (coming old rest) ≡ whole bytes)
    → Answers old new before after (Ok true)
    → IfSome all (λ bytes. answer ≡ whole bytes)
decided_line F whole answer old new None before after ends decides answers = tt
decided_line F whole answer old new (Some bytes) None after ends decides answers = absurd decides
decided_line F whole answer old new (Some bytes) (Some rest) None ends decides answers = absurd answers
decided_line F whole answer old new (Some bytes) (Some rest) (Some last) ends decides answers =
    sym (ends (coming new last)) ∙ sym (ap F answers) ∙ decides

-- at the end of the input
pub decided_end : {X : Type 0} (F : List Outcome → X) (whole : List ℕ → X) (old new : Reader) (all before after : Option (List ℕ))
    → WhereKnown all before (λ bytes rest. F (coming old rest) ≡ whole bytes)
    → Answers old new before after (Ok false)
    → IfSome all (λ bytes. F [] ≡ whole bytes)
decided_end F whole old new None before after decides answers = tt
decided_end F whole old new (Some bytes) None after decides answers = absurd decides
decided_end F whole old new (Some bytes) (Some rest) None decides answers = absurd answers
decided_end F whole old new (Some bytes) (Some rest) (Some last) decides answers =
    ap F (sym (outcomes_none old.given old.place)) ∙ ap (λ (l : List ℕ). F (coming old l)) (sym answers.0) ∙ decides

stop_of : (old new : Reader) (bytes rest : List ℕ) (fault : LineFault) → fault ≢ Read → Answers old new (Some bytes) (Some rest) (Err fault)
    → (f : InputFault) × (fault ≡ fault_of f) × (coming old bytes ≡ Stop f ∷ [])
stop_of old new bytes rest Read other answers = absurd (other refl)
stop_of old new bytes rest (Long number) other answers = (LongLine number, refl, answers.1)
stop_of old new bytes rest Bytes other answers = (TooManyBytes, refl, answers.1)
stop_of old new bytes rest Lines other answers = (TooManyLines, refl, answers.1)

-- at a fault other than Read
pub decided_fault : {X : Type 0} (F : List Outcome → X) (whole : List ℕ → X) (answer : LineFault → X) (old new : Reader) (all before after : Option (List ℕ))
    (fault : LineFault) → fault ≢ Read
    → ((f : InputFault) → F (Stop f ∷ []) ≡ answer (fault_of f))
    → WhereKnown all before (λ bytes rest. F (coming old rest) ≡ whole bytes)
    → Answers old new before after (Err fault)
    → IfSome all (λ bytes. answer fault ≡ whole bytes)
decided_fault F whole answer old new None before after fault other ends decides answers = tt
decided_fault F whole answer old new (Some bytes) None after fault other ends decides answers = absurd decides
decided_fault F whole answer old new (Some bytes) (Some rest) None fault other ends decides answers = absurd answers
decided_fault F whole answer old new (Some bytes) (Some rest) (Some last) fault other ends decides answers =
    let stop = stop_of old new rest last fault other answers in
    ap answer stop.1 ∙ sym (ends stop.0) ∙ sym (ap F stop.2) ∙ decides

-- ---- the whole lines that are gone

pub took_none : (left : Option (List ℕ)) → TookLines left left []
took_none left = record { taken = Consumes-nil left; no_end = tt }

pub joined-push : (lines : List (List ℕ)) (line : List ℕ) → joined_lines (lines ++ line ∷ []) ≡ joined_lines lines ++ (line ++ 10 ∷ [])
joined-push [] line = refl
joined-push (first ∷ lines) line =
    ap (λ (l : List ℕ). first ++ 10 ∷ l) (joined-push lines line) ∙ sym (append_assoc first (10 ∷ joined_lines lines) (line ++ 10 ∷ []))

all-push : (lines : List (List ℕ)) (line : List ℕ) → AllByRecursion HasNoEnd lines → HasNoEnd line → AllByRecursion HasNoEnd (lines ++ line ∷ [])
all-push [] line all none = (none, tt)
all-push (first ∷ lines) line all none = (all.0, all-push lines line all.1 none)

pub took_line : (all before after : Option (List ℕ)) (lines : List (List ℕ)) (line : List ℕ) → TookLines all before lines → HasNoEnd line
    → Consumes before after (line ++ 10 ∷ []) → TookLines all after (lines ++ line ∷ [])
took_line all before after lines line took none taken = record {
  taken = subst (Consumes all after) (sym (joined-push lines line)) (Consumes-trans all before after _ _ took.taken taken);
  no_end = all-push lines line took.no_end none;
}

-- a call that takes nothing
pub took_kept : (all before after : Option (List ℕ)) (lines : List (List ℕ)) → TookLines all before lines → Keeps before after → TookLines all after lines
took_kept all before after lines took keeps = record { taken = Consumes-kept all before after _ took.taken keeps; no_end = took.no_end }

whole_part : (part : List ℕ) → HasNoEnd part → whole_lines part ≡ []
whole_part [] none = refl
whole_part (b ∷ part) none = rw (ne_eqb b 10 none.0, whole_part part none.1) refl

whole_step : (line rest : List ℕ) → HasNoEnd line → whole_lines (line ++ 10 ∷ rest) ≡ line ∷ whole_lines rest
whole_step [] rest none = refl
whole_step (b ∷ line) rest none = rw (ne_eqb b 10 none.0, whole_step line rest none.1) refl

pub whole_joined : (lines : List (List ℕ)) (part : List ℕ) → AllByRecursion HasNoEnd lines → HasNoEnd part → whole_lines (joined_lines lines ++ part) ≡ lines
whole_joined [] part all none = whole_part part none
whole_joined (line ∷ lines) part all none =
    ap whole_lines (append_assoc line (10 ∷ joined_lines lines) part) ∙ whole_step line (joined_lines lines ++ part) all.0
    ∙ ap (λ (l : List (List ℕ)). line ∷ l) (whole_joined lines part all.1 none)

held_consumes : (left : Option (List ℕ)) (held : List ℕ) → Consumes (prepend_known held left) left held
held_consumes None held = tt
held_consumes (Some rest) held = refl

-- the bytes that a reader holds begin a further line
pub took_part : (all left : Option (List ℕ)) (held : List ℕ) (lines : List (List ℕ)) → TookLines all (prepend_known held left) lines → HasNoEnd held
    → TookWhole all left lines
took_part all left held lines took none = record {
  bytes = joined_lines lines ++ held;
  taken = Consumes-trans all (prepend_known held left) left _ _ took.taken (held_consumes left held);
  is = whole_joined lines held took.no_end none;
}

-- where a call has read behind these lines, its last read was needed
pub needed_behind : (start before after : Option (List ℕ)) (old : Reader) (lines : List (List ℕ)) (last : Option ℕ)
    → TookLines start (input old before) lines → Needed old before after last → LastNeeded start after last lines
needed_behind start before after old lines last took needed = record {
  part = needed.part;
  piece = needed.piece;
  taken = Consumes-trans start _ after (joined_lines lines) _ (Consumes-kept start _ _ _ took.taken needed.keeps) (held_consumes after (needed.part ++ needed.piece));
  no_end = took.no_end;
  is_open = needed.shows.is_open;
  told = needed.told;
}
