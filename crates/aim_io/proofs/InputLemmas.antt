-- The bytes that are still to come: those that a reader holds, and then those that its source has left.
use Rattle.std.proofs.Common.{◌≡◌, ◌⊎◌, ℕ, ◌+◌, ◌<◌, ◌≤◌, Bool, true, false, inl, inr, subst, List, [], ◌∷◌, ◌++◌, length, take, drop, nat_lt, if◌then◌else◌, Some, None, Ok, Err, refl, sym, ap, ◌∙◌, arith}
use Rattle.std.proofs.lemmas.Bool.{lt-ltb, cases_Bool}
use Rattle.std.proofs.lemmas.List.{append_assoc, append-nil, length-take, length-drop, take-append-drop, take-take}
use Rattle.std.specs.Prelude.{IfSome}
use Rattle.std.proofs.KnownBytes.{Keeps-trans}
use Rattle.std.specs.declared.option.Option.{Option}
use Rattle.std.specs.Io.KnownBytes.{Consumes, IsAtEnd, Keeps, prepend_known}
use Rattle.aim_io.specs.declared.lines.LineFault.{LineFault}
use Rattle.aim_io.specs.declared.lines.LineFault.TheVariants.{Read, Long, Bytes, Lines}
use Rattle.aim_io.specs.Lines.{LongLine, Line, Stop, outcomes, IsOpen, ShowsNothing, ShowsFault}
use Rattle.aim_io.specs.Look.{ShowsLine, behind_line, behind_all}
use Rattle.aim_io.specs.Reader.{Reader, input, coming, Answers, Stops, Needed}
use Rattle.aim_io.proofs.LinesLemmas.{outcomes_line, outcomes_last, long_front, bytes_front, lines_front}

-- what the source loses is held
pub keeps_more : (a b : Option (List ℕ)) (old piece new : List ℕ) → Consumes a b piece → new ≡ old ++ piece
    → Keeps (prepend_known old a) (prepend_known new b)
keeps_more None b old piece new p e = tt
keeps_more (Some xs) None old piece new p e = absurd p
keeps_more (Some xs) (Some ys) old piece new p e = ap (λ (l : List ℕ). l ++ ys) e ∙ append_assoc old piece ys ∙ ap (λ (l : List ℕ). old ++ l) (sym p)

-- a reader that has read on twice
pub same_as_first : (old now new : Reader) → now ≡ record old { held = now.held; line = now.line } → new ≡ record now { held = new.held; line = new.line }
    → new ≡ record old { held = new.held; line = new.line }
same_as_first old now new first second = second ∙ ap (λ (r : Reader). record r { held = new.held; line = new.line }) first

pub begins_trans : (first now new : List ℕ) → take (length first) now ≡ first → take (length now) new ≡ now → take (length first) new ≡ first
begins_trans first now new before after =
    let short : length first ≤ length now = omega (arith, ap (λ (l : List ℕ). length l) before, length-take (length first) now) in
    sym (take-take (length first) (length now) new short) ∙ ap (take (length first)) after ∙ before

-- a read behind bytes that show nothing of the next answer was needed
needed_more : (first now new : Reader) (left_first left_now left_new : Option (List ℕ)) (last : Option ℕ)
    → now ≡ record first { held = now.held; line = now.line } → take (length first.held) now.held ≡ first.held
    → Keeps (input first left_first) (input now left_now) → Keeps (input now left_now) (input new left_new)
    → ShowsNothing now.given now.place now.held → take (length now.held) new.held ≡ now.held
    → IfSome last (λ n. length new.held ≡ length now.held + n)
    → Needed first left_first left_new last
needed_more first now new left_first left_now left_new last same begins keeps more shows front size =
    let given : now.given ≡ first.given = ap (λ (r : Reader). r.given) same in
    let place : now.place ≡ first.place = ap (λ (r : Reader). r.place) same in
    let whole : now.held ++ drop (length now.held) new.held ≡ new.held
    = ap (λ (l : List ℕ). l ++ drop (length now.held) new.held) (sym front) ∙ take-append-drop (length now.held) new.held in
    record {
      part = now.held;
      piece = drop (length now.held) new.held;
      begins = begins;
      shows = rw (← given, ← place) shows;
      keeps = rw whole (Keeps-trans _ _ _ keeps more);
      told = told last size;
    }
  where
    told : (last : Option ℕ) → IfSome last (λ n. length new.held ≡ length now.held + n) → IfSome last (λ n. n ≡ length (drop (length now.held) new.held))
    told None size = tt
    told (Some n) size = omega (arith, length-drop (length now.held) new.held)

-- no read since the start, or the last one was needed: so it is after a further piece, if one was read
pub needed_now : {S : Type 0} (left : S → Option (List ℕ)) (last : S → Option ℕ) (first now new : Reader) (start before after : S)
    → now ≡ record first { held = now.held; line = now.line } → take (length first.held) now.held ≡ first.held
    → Keeps (input first (left start)) (input now (left before)) → Keeps (input now (left before)) (input new (left after))
    → ShowsNothing now.given now.place now.held → take (length now.held) new.held ≡ now.held
    → (now.ended ≡ true → after ≡ before) → (now.ended ≡ false → IfSome (last after) (λ n. length new.held ≡ length now.held + n))
    → (before ≡ start) ⊎ Needed first (left start) (left before) (last before)
    → (after ≡ start) ⊎ Needed first (left start) (left after) (last after)
needed_now left last first now new start before after same begins keeps more shows front quiet size needed = elim (cases_Bool now.ended) [
  | inl ended ↦ subst (λ s. (s ≡ start) ⊎ Needed first (left start) (left s) (last s)) (sym (quiet ended)) needed
  | inr going ↦ inr (needed_more first now new (left start) (left before) (left after) (last after) same begins keeps more shows front (size going))
]

-- ---- what is answered of the bytes to come, by what a reader holds of them

line_of : (given place len : ℕ) (held rest bytes : List ℕ) → ShowsLine given place held len → held ++ rest ≡ bytes
    → outcomes given place bytes ≡ Line (take len held) ∷ outcomes (given + 1) (place + len + 1) (drop (len + 1) held ++ rest)
line_of given place len held rest bytes shows is =
    let line = take len held in
    let tail = drop (len + 1) held ++ rest in
    let size : length line ≡ len = length-take len held ∙ omega (arith, shows.ends.fits) in
    let whole : bytes ≡ line ++ 10 ∷ tail =
    sym is ∙ ap (λ (l : List ℕ). l ++ rest) shows.ends.split ∙ append_assoc line (10 ∷ drop (len + 1) held) rest in
    let is_open : IsOpen line = record { no_end = shows.ends.no_end; short = omega (arith, size, shows.short) } in
    ap (outcomes given place) whole ∙ outcomes_line given place line tail shows.few is_open (omega (arith, size, shows.within))
    ∙ ap (λ (n : ℕ). Line line ∷ outcomes (given + 1) (place + n + 1) tail) size

pub answers_line : (old now : Reader) (before left : Option (List ℕ)) (len : ℕ) → now ≡ record old { held = now.held; line = now.line }
    → Keeps before (input now left) → ShowsLine now.given now.place now.held len → Answers old (behind_line now len) before (input (behind_line now len) left) (Ok true)
answers_line old now None left len same keeps shows = tt
answers_line old now (Some bytes) None len same keeps shows = absurd keeps
answers_line old now (Some bytes) (Some rest) len same keeps shows =
    let given : old.given ≡ now.given = sym (ap (λ (r : Reader). r.given) same) in
    let place : old.place ≡ now.place = sym (ap (λ (r : Reader). r.place) same) in
    rw (given, place) (line_of now.given now.place len now.held rest bytes shows keeps)

last_of : (old new : Reader) (held bytes rest : List ℕ) → new.given ≡ old.given + 1 → new.place ≡ old.place + length held → new.line ≡ held
    → held ≡ bytes → rest ≡ [] → ShowsNothing old.given old.place held → 0 < length held
    → coming old bytes ≡ Line new.line ∷ coming new rest
last_of old new held bytes rest given place line is none shows some =
    let last = outcomes_last old.given old.place held (shows.few some) shows.is_open some shows.within in
    rw (given, place, line, none, ← is) last

rest_of : (old new : Reader) (held bytes rest : List ℕ) (more : Bool) → new.given ≡ old.given + (if more then 1 else 0) → new.place ≡ old.place + length held
    → new.line ≡ held → held ≡ bytes → rest ≡ [] → ShowsNothing old.given old.place held → more ≡ nat_lt 0 (length held)
    → Answers old new (Some bytes) (Some rest) (Ok more)
rest_of old new [] bytes rest more given place line is none shows test = rw test (sym is, none)
rest_of old new (b ∷ held) bytes rest more given place line is none shows test =
    let yes_more : more ≡ true = test ∙ lt-ltb 0 (length (b ∷ held)) (omega arith) in
    let one = rw yes_more at given in
    rw yes_more (last_of old new (b ∷ held) bytes rest one place line is none shows (omega arith))

-- the last line, or the end of the input
pub answers_rest : (old now : Reader) (before left : Option (List ℕ)) (more : Bool) → now ≡ record old { held = now.held; line = now.line }
    → Keeps before (input now left) → ShowsNothing now.given now.place now.held → IsAtEnd left → more ≡ nat_lt 0 (length now.held)
    → Answers old (behind_all now more) before (input (behind_all now more) left) (Ok more)
answers_rest old now None left more same keeps shows end test = tt
answers_rest old now (Some bytes) None more same keeps shows end test = absurd keeps
answers_rest old now (Some bytes) (Some rest) more same keeps shows end test =
    let given : old.given ≡ now.given = sym (ap (λ (r : Reader). r.given) same) in
    let place : old.place ≡ now.place = sym (ap (λ (r : Reader). r.place) same) in
    let is : now.held ≡ bytes = sym (ap (λ (l : List ℕ). now.held ++ l) end ∙ append-nil now.held) ∙ keeps in
    rest_of old (behind_all now more) now.held bytes rest more (ap (λ (n : ℕ). n + (if more then 1 else 0)) (sym given)) (ap (λ (n : ℕ). n + length now.held) (sym place))
    refl is end (rw (given, place) shows) test

-- the fault that the bytes held show is the answer, whatever comes behind them
stops_shown : (reader : Reader) (held rest : List ℕ) (fault : LineFault) → ShowsFault reader.given reader.place held fault → Stops reader (held ++ rest) fault
stops_shown reader held rest Read shows = absurd shows
stops_shown reader held rest (Long number) shows =
    long_front reader.given reader.place held rest shows.1 ∙ ap (λ (n : ℕ). Stop (LongLine n) ∷ []) (sym shows.0)
stops_shown reader held rest Bytes shows = bytes_front reader.given reader.place held rest shows
stops_shown reader held rest Lines shows = lines_front reader.given reader.place held rest shows

pub answers_fault : (old now new : Reader) (before left : Option (List ℕ)) (fault : LineFault) → now ≡ record old { held = now.held; line = now.line }
    → Keeps before (input now left) → new.held ≡ now.held → ShowsFault now.given now.place now.held fault
    → Answers old new before (input new left) (Err fault)
answers_fault old now new None left fault same keeps held shows = tt
answers_fault old now new (Some bytes) None fault same keeps held shows = absurd keeps
answers_fault old now new (Some bytes) (Some rest) fault same keeps held shows =
    let given : old.given ≡ now.given = sym (ap (λ (r : Reader). r.given) same) in
    let place : old.place ≡ now.place = sym (ap (λ (r : Reader). r.place) same) in
    let stops = stops_shown old now.held rest fault (rw (given, place) shows) in
    (ap (λ (l : List ℕ). l ++ rest) held ∙ keeps, subst (λ (l : List ℕ). Stops old l fault) keeps stops)
