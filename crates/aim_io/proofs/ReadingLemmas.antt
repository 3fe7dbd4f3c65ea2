-- What a reader does that reads pieces until what it holds decides, and what is answered then.
use Rattle.std.proofs.Common.{◌≡◌, ◌≢◌, ◌⊎◌, ℕ, ◌+◌, ◌<◌, ◌≤◌, Bool, true, false, inl, inr, List, [], ◌∷◌, ◌++◌, length, take, drop, nat_lt, if◌then◌else◌, Some, None, Ok, Err, Result, IfOk, IfErr, OnErr, OnOk, IfSome, refl, sym, ap, ◌∙◌, subst, arith}
use Rattle.std.proofs.lemmas.Bool.{lt-ltb}
use Rattle.std.proofs.lemmas.List.{length-take, length-drop, append-nil, append_assoc, length-append, take_all}
use Rattle.std.proofs.KnownBytes.{Keeps-refl, Keeps-trans, prepend_known-read}
use Rattle.std.specs.Bool.{OnFalse, OnTrue}
use Rattle.std.specs.declared.option.Option.{Option}
use Rattle.std.specs.Io.KnownBytes.{Consumes, IsAtEnd, Keeps, prepend_known}
use Rattle.aim_io.specs.declared.lines.LineFault.{LineFault}
use Rattle.aim_io.specs.declared.lines.LineFault.TheVariants.{Read, Long, Bytes, Lines}
use Rattle.aim_io.specs.declared.lines.Look.{Look}
use Rattle.aim_io.specs.declared.lines.Look.TheVariants as look
use Rattle.aim_io.specs.Causes.{Rose}
use Rattle.aim_io.specs.Lines.{IsOpen, ShowsNothing, ShowsFault, with_end}
use Rattle.aim_io.specs.Look.{ShowsLine, SaysOf, ReadOn, FaultNext, ShowsNext, CanAnswer, Answered, behind_line, behind_all}
use Rattle.aim_io.specs.Reader.{Reader, input, IsSound, KnowsEnd, Answers, taken_by, after_call}
use Rattle.aim_io.proofs.FillLemmas.{not_both}
use Rattle.aim_io.proofs.InputLemmas.{begins_trans, needed_now, same_as_first, answers_line, answers_rest, answers_fault}

-- ---- reading on

pub read_none : {S : Type 0} (left : S → Option (List ℕ)) (faults : S → ℕ) (last : S → Option ℕ) (reader : Reader) (source : S)
    → ReadOn left faults last reader reader source source
read_none left faults last reader source = record {
  same = refl;
  keeps = Keeps-refl (input reader (left source));
  knows = λ knows. knows;
  later = omega arith;
  ahead = inl (refl, refl);
  begins = take_all (length reader.held) reader.held (omega arith);
  needed = inl refl;
  quiet = λ _. refl;
}

-- a further piece, behind bytes that show nothing
pub read_more : {S : Type 0} (left : S → Option (List ℕ)) (faults : S → ℕ) (last : S → Option ℕ) (first now new : Reader) (start before after : S)
    → ReadOn left faults last first now start before → ShowsNothing now.given now.place now.held
    → new ≡ record now { held = new.held; line = new.line } → Keeps (input now (left before)) (input new (left after))
    → take (length now.held) new.held ≡ now.held → (now.ended ≡ true → after ≡ before)
    → (now.ended ≡ false → IfSome (last after) (λ n. length new.held ≡ length now.held + n)) → faults before ≤ faults after
    → ReadOn left faults last first new start after
read_more left faults last first now new start before after on shows same keeps front quiet size later =
    let ended : new.ended ≡ now.ended = ap (λ (r : Reader). r.ended) same in
    let was : now.ended ≡ first.ended = ap (λ (r : Reader). r.ended) on.same in
    record {
      same = same_as_first first now new on.same same;
      keeps = Keeps-trans _ _ _ on.keeps keeps;
      knows = λ knows over. let before_over : now.ended ≡ true = sym ended ∙ over in subst (λ s. IsAtEnd (left s)) (sym (quiet before_over)) (on.knows knows before_over);
      later = omega (arith, on.later, later);
      ahead = inr (opened on.ahead);
      begins = begins_trans first.held now.held new.held on.begins front;
      needed = needed_now left last first now new start before after on.same on.begins on.keeps keeps shows front quiet size on.needed;
      quiet = λ over. quiet (was ∙ over) ∙ on.quiet over;
    }
  where
    opened : ((before ≡ start) × (now.held ≡ first.held)) ⊎ IsOpen first.held → IsOpen first.held
    opened (inl none) = subst IsOpen none.1 shows.is_open
    opened (inr is_open) = is_open

-- a reader that has read on without a piece
pub sound_same : (now new : Reader) → IsSound now → new ≡ record now { held = new.held; line = new.line } → new.held ≡ now.held → IsSound new
sound_same now new sound same held =
    let given : new.given ≡ now.given = ap (λ (r : Reader). r.given) same in
    let place : new.place ≡ now.place = ap (λ (r : Reader). r.place) same in
    let ended : new.ended ≡ now.ended = ap (λ (r : Reader). r.ended) same in
    record {
      few = omega (arith, sound.few, given);
      read = omega (arith, sound.read, place, ap (λ (l : List ℕ). length l) held);
      ended = λ over. held ∙ sound.ended (sym ended ∙ over);
    }

pub shows_same : (now new : Reader) → ShowsNothing now.given now.place now.held → new ≡ record now { held = new.held; line = new.line } → new.held ≡ now.held
    → ShowsNothing new.given new.place new.held
shows_same now new shows same held =
    let given : new.given ≡ now.given = ap (λ (r : Reader). r.given) same in
    let place : new.place ≡ now.place = ap (λ (r : Reader). r.place) same in
    rw (given, place, held) shows

-- where the source has failed
pub failed_next : (now new : Reader) (start before after : ℕ) → ShowsNothing now.given now.place now.held
    → new ≡ record now { held = new.held; line = new.line } → new.held ≡ now.held → now.ended ≡ false → start ≤ before → Rose before after
    → FaultNext new start after Read
failed_next now new start before after shows same held going later rose =
    (shows_same now new shows same held, ap (λ (r : Reader). r.ended) same ∙ going, omega (arith, later, rose))

-- what was held is looked at no more
pub seen_now : (now new : Reader) (seen : ℕ) → seen ≡ length now.held → ShowsNothing now.given now.place now.held
    → new ≡ record now { held = new.held; line = new.line } → take (length now.held) new.held ≡ now.held
    → (new.place + seen ≤ 67108864) × (seen ≤ length new.held) × IsOpen (take seen new.held)
seen_now now new seen is shows same front =
    let place : new.place ≡ now.place = ap (λ (r : Reader). r.place) same in
    let size : length (take (length now.held) new.held) ≡ length now.held = ap (λ (l : List ℕ). length l) front in
    let all : take seen new.held ≡ now.held = ap (λ (n : ℕ). take n new.held) is ∙ front in
    (omega (arith, is, place, shows.within), omega (arith, is, size, length-take (length now.held) new.held), subst IsOpen (sym all) shows.is_open)

fault_shown : (reader : Reader) (before after : ℕ) (fault : LineFault) → ShowsFault reader.given reader.place reader.held fault → FaultNext reader before after fault
fault_shown reader before after Read shows = absurd shows
fault_shown reader before after (Long number) shows = shows
fault_shown reader before after Bytes shows = shows
fault_shown reader before after Lines shows = shows

-- what is held decides
pub look_shown : (reader : Reader) (before after : ℕ) (AtEnd : Type 0) (shown : Look) → shown ≢ look.Open → SaysOf reader.given reader.place reader.held shown
    → ShowsNext reader before after AtEnd shown
look_shown reader before after AtEnd (look.Line len) other says = says
look_shown reader before after AtEnd (look.Stop fault) other says = fault_shown reader before after fault says
look_shown reader before after AtEnd look.Open other says = absurd (other refl)

-- ---- the answer

pub can_answer : (reader : Reader) (before after : ℕ) (AtEnd : Type 0) (shown : Look) → ShowsNext reader before after AtEnd shown → CanAnswer reader shown
can_answer reader before after AtEnd (look.Line len) shows = shows
can_answer reader before after AtEnd (look.Stop fault) shows = tt
can_answer reader before after AtEnd look.Open shows = shows.0

-- what `advance` says of a call that answers no earlier fault
pub record Advanced {S : Type 0} (left : S → Option (List ℕ)) (faults : S → ℕ) (old new : Reader) (before after : S) (result : Result Bool LineFault) : Type 0 where
  pub step : KnowsEnd old (left before) → Answers old new (input old (left before)) (input new (left after)) result
  pub knows : KnowsEnd old (left before) → KnowsEnd new (left after)
  pub line : IfOk result (λ more. OnTrue more (IsOpen new.line))
  pub taken : IfOk result (λ more. Consumes (input old (left before)) (input new (left after)) (taken_by new more))
  pub behind : IfOk result (λ more. new ≡ after_call old new more)
  pub end : IfOk result (λ more. OnFalse more (new.ended ≡ true))
  pub going : IfOk result (λ more. OnTrue more (old.ended ≡ false))
  pub last : IfOk result (λ more. new.ended ≡ true → OnTrue more (0 < length new.line) × (new.held ≡ []))
  pub sound : IsSound new
  pub fault : IfErr result (λ f. old.fault ≡ None → new ≡ record old { held = new.held; line = []; fault = Some f })
  pub keeps : OnErr result (Keeps (input old (left before)) (input new (left after)))
  pub shows : IfErr result (λ f. old.fault ≡ None → (f ≡ Read) ⊎ ShowsFault new.given new.place new.held f)
  pub read : IfErr result (λ f. f ≡ Read → ShowsNothing new.given new.place new.held × (new.ended ≡ false) × Rose (faults before) (faults after))
  pub asked : IfErr result (λ f. f ≡ Read → IsOpen old.held)

-- what is gone is what was held before what is held now
gone : (old now : Reader) (before left : Option (List ℕ)) (line rest : List ℕ) → Keeps before (input now left) → now.held ≡ line ++ rest
    → Consumes before (prepend_known rest left) line
gone old now before left line rest keeps split = (prepend_known-read before left now.held rest line ⊥ keeps split (λ no. absurd no)).0

behind_one : (old now : Reader) (len : ℕ) → now ≡ record old { held = now.held; line = now.line } → length (take len now.held) ≡ len → now.ended ≡ false
    → behind_line now len ≡ after_call old (behind_line now len) true
behind_one old now len same size going =
    let given : now.given + 1 ≡ old.given + 1 = ap (λ (r : Reader). r.given + 1) same in
    let place : now.place ≡ old.place = ap (λ (r : Reader). r.place) same in
    let fault : now.fault ≡ old.fault = ap (λ (r : Reader). r.fault) same in
    let line = take len now.held in
    let all : length (with_end now.ended line) ≡ len + 1 =
    ap (λ (b : Bool). length (with_end b line)) going ∙ length-append line (10 ∷ []) ∙ ap (λ (n : ℕ). n + 1) size in
    let behind : now.place + len + 1 ≡ old.place + length (with_end now.ended line) = omega (arith, place, all) in
    cc (given, behind, fault)

advanced_line : {S : Type 0} (left : S → Option (List ℕ)) (faults : S → ℕ) (last : S → Option ℕ) (old now : Reader) (before after : S) (len : ℕ)
    → ReadOn left faults last old now before after → IsSound now → ShowsLine now.given now.place now.held len → now.ended ≡ false
    → Advanced left faults old (behind_line now len) before after (Ok true)
advanced_line left faults last old now before after len on sound shows going =
    let line = take len now.held in
    let rest = drop (len + 1) now.held in
    let size : length line ≡ len = length-take len now.held ∙ omega (arith, shows.ends.fits) in
    let ended : now.ended ≡ old.ended = ap (λ (r : Reader). r.ended) on.same in
    let split : now.held ≡ (line ++ 10 ∷ []) ++ rest = shows.ends.split ∙ sym (append_assoc line (10 ∷ []) rest) in
    record {
      step = λ knows. answers_line old now _ (left after) len on.same on.keeps shows;
      knows = on.knows;
      line = record { no_end = shows.ends.no_end; short = omega (arith, size, shows.short) };
      taken = subst (λ b. Consumes (input old (left before)) (prepend_known rest (left after)) (with_end b line)) (sym going) (gone old now _ (left after) _ rest on.keeps split);
      behind = behind_one old now len on.same size going;
      end = tt;
      going = sym ended ∙ going;
      last = λ over. not_both now.ended going over;
      sound = record {
        few = omega (arith, shows.few);
        read = omega (arith, sound.read, length-drop (len + 1) now.held, shows.ends.fits);
        ended = λ over. not_both now.ended going over;
      };
      fault = tt;
      keeps = tt;
      shows = tt;
      read = tt;
      asked = tt;
    }

on_true : (b : Bool) (P : Type 0) → P → OnTrue b P
on_true true P p = p
on_true false P p = tt

on_false : (b : Bool) (P : Type 0) → P → OnFalse b P
on_false true P p = tt
on_false false P p = p

rest_taken : (held : List ℕ) → (if nat_lt 0 (length held) then held else []) ≡ held
rest_taken [] = refl
rest_taken (b ∷ held) = rw (lt-ltb 0 (length (b ∷ held)) (omega arith)) refl

rest_going : (ended : Bool) (held : List ℕ) → (ended ≡ true → held ≡ []) → OnTrue (nat_lt 0 (length held)) (ended ≡ false)
rest_going true held none = rw (none refl) tt
rest_going false held none = on_true _ _ refl

rest_some : (held : List ℕ) → OnTrue (nat_lt 0 (length held)) (0 < length held)
rest_some [] = tt
rest_some (b ∷ held) = on_true (nat_lt 0 (length (b ∷ held))) (0 < length (b ∷ held)) (omega arith)

rest_few : (held : List ℕ) (given : ℕ) → given ≤ 262144 → (0 < length held → given < 262144) → given + (if nat_lt 0 (length held) then 1 else 0) ≤ 262144
rest_few [] given all few = omega (arith, all)
rest_few (b ∷ held) given all few =
    let less : given < 262144 = few (omega arith) in rw (lt-ltb 0 (length (b ∷ held)) (omega arith)) (omega (arith, less))

behind_rest : (old now : Reader) (more : Bool) → more ≡ nat_lt 0 (length now.held) → now ≡ record old { held = now.held; line = now.line }
    → behind_all now more ≡ after_call old (behind_all now more) more
behind_rest old now more test same =
    let given : now.given + (if more then 1 else 0) ≡ old.given + (if more then 1 else 0) = ap (λ (r : Reader). r.given + (if more then 1 else 0)) same in
    let place : now.place ≡ old.place = ap (λ (r : Reader). r.place) same in
    let fault : now.fault ≡ old.fault = ap (λ (r : Reader). r.fault) same in
    let all : length (if more then now.held else []) ≡ length now.held =
    ap (λ (b : Bool). length (if b then now.held else [])) test ∙ ap (λ (l : List ℕ). length l) (rest_taken now.held) in
    let behind : now.place + length now.held ≡ old.place + length (if more then now.held else []) = omega (arith, place, all) in
    cc (given, behind, fault)

advanced_rest : {S : Type 0} (left : S → Option (List ℕ)) (faults : S → ℕ) (last : S → Option ℕ) (old now : Reader) (before after : S)
    → ReadOn left faults last old now before after → IsSound now → ShowsNothing now.given now.place now.held → (KnowsEnd old (left before) → IsAtEnd (left after))
    → Advanced left faults old (behind_all now (nat_lt 0 (length now.held))) before after (Ok (nat_lt 0 (length now.held)))
advanced_rest left faults last old now before after on sound shows at_end =
    let more = nat_lt 0 (length now.held) in
    let ended : now.ended ≡ old.ended = ap (λ (r : Reader). r.ended) on.same in
    let split : now.held ≡ (if more then now.held else []) ++ [] = sym (append-nil (if more then now.held else []) ∙ rest_taken now.held) in
    record {
      step = λ knows. answers_rest old now _ (left after) more on.same on.keeps shows (at_end knows) refl;
      knows = λ knows _. at_end knows;
      line = on_true more _ shows.is_open;
      taken = gone old now _ (left after) _ [] on.keeps split;
      behind = behind_rest old now more refl on.same;
      end = on_false more _ refl;
      going = subst (λ b. OnTrue more (b ≡ false)) ended (rest_going now.ended now.held sound.ended);
      last = λ _. (rest_some now.held, refl);
      sound = record {
        few = rest_few now.held now.given sound.few shows.few;
        read = omega (arith, shows.within);
        ended = λ _. refl;
      };
      fault = tt;
      keeps = tt;
      shows = tt;
      read = tt;
      asked = tt;
    }

answers_read : (old now new : Reader) (before left : Option (List ℕ)) → Keeps before (input now left) → new.held ≡ now.held
    → Answers old new before (input new left) (Err Read)
answers_read old now new None left keeps held = tt
answers_read old now new (Some bytes) None keeps held = absurd keeps
answers_read old now new (Some bytes) (Some rest) keeps held = (ap (λ (l : List ℕ). l ++ rest) held ∙ keeps, tt)

-- the reader that answers this fault for ever
abbrev failed : Reader → LineFault → Reader
failed now fault = record now { line = []; fault = Some fault }

fault_step : (old now : Reader) (before left : Option (List ℕ)) (was is : ℕ) (fault : LineFault) → now ≡ record old { held = now.held; line = now.line }
    → Keeps before (input now left) → FaultNext now was is fault → Answers old (failed now fault) before (input now left) (Err fault)
fault_step old now before left was is Read same keeps next = answers_read old now (failed now Read) before left keeps refl
fault_step old now before left was is (Long number) same keeps next = answers_fault old now (failed now (Long number)) before left (Long number) same keeps refl next
fault_step old now before left was is Bytes same keeps next = answers_fault old now (failed now Bytes) before left Bytes same keeps refl next
fault_step old now before left was is Lines same keeps next = answers_fault old now (failed now Lines) before left Lines same keeps refl next

fault_shows : (now : Reader) (was is : ℕ) (fault : LineFault) → FaultNext now was is fault → (fault ≡ Read) ⊎ ShowsFault now.given now.place now.held fault
fault_shows now was is Read next = inl refl
fault_shows now was is (Long number) next = inr next
fault_shows now was is Bytes next = inr next
fault_shows now was is Lines next = inr next

-- a source was asked, which failed, where what was held showed nothing
open_before : {S : Type 0} (before after : S) (old now : List ℕ) → ((after ≡ before) × (now ≡ old)) ⊎ IsOpen old → IsOpen now → IsOpen old
open_before before after old now (inl none) is_open = subst IsOpen none.1 is_open
open_before before after old now (inr was_open) is_open = was_open

advanced_fault : {S : Type 0} (left : S → Option (List ℕ)) (faults : S → ℕ) (last : S → Option ℕ) (old now : Reader) (before after : S) (fault : LineFault)
    → ReadOn left faults last old now before after → IsSound now → FaultNext now (faults before) (faults after) fault
    → Advanced left faults old (failed now fault) before after (Err fault)
advanced_fault left faults last old now before after fault on sound next = record {
  step = λ knows. fault_step old now _ (left after) (faults before) (faults after) fault on.same on.keeps next;
  knows = on.knows;
  line = tt;
  taken = tt;
  behind = tt;
  end = tt;
  going = tt;
  last = tt;
  sound = record { few = sound.few; read = sound.read; ended = sound.ended };
  fault = λ _. ap (λ (r : Reader). failed r fault) on.same;
  keeps = on.keeps;
  shows = λ _. fault_shows now (faults before) (faults after) fault next;
  read = λ is. subst (λ f. FaultNext now (faults before) (faults after) f) is next;
  asked = λ is. open_before before after old.held now.held on.ahead (subst (λ f. FaultNext now (faults before) (faults after) f) is next).0.is_open;
}

-- the call that read on and then answered what was held
pub advanced : {S : Type 0} (left : S → Option (List ℕ)) (faults : S → ℕ) (last : S → Option ℕ) (old now new : Reader) (before after : S) (shown : Look)
    (result : Result Bool LineFault) → ReadOn left faults last old now before after → IsSound now
    → ShowsNext now (faults before) (faults after) (KnowsEnd old (left before) → IsAtEnd (left after)) shown → Answered now new shown result
    → Advanced left faults old new before after result
advanced left faults last old now new before after (look.Line len) result on sound shows answered =
    let going : now.ended ≡ false = sym (ap (λ (r : Reader). r.ended) answered.1) ∙ answered.2 in
    subst (λ r. Advanced left faults old new before after r) (sym answered.0)
    (subst (λ n. Advanced left faults old n before after (Ok true)) (sym answered.1) (advanced_line left faults last old now before after len on sound shows going))
advanced left faults last old now new before after (look.Stop fault) result on sound shows answered =
    subst (λ r. Advanced left faults old new before after r) (sym answered.0)
    (subst (λ n. Advanced left faults old n before after (Err fault)) (sym answered.1) (advanced_fault left faults last old now before after fault on sound shows))
advanced left faults last old now new before after look.Open result on sound shows answered =
    subst (λ r. Advanced left faults old new before after r) (sym answered.0)
    (subst (λ n. Advanced left faults old n before after (Ok (nat_lt 0 (length now.held)))) (sym answered.1)
    (advanced_rest left faults last old now before after on sound shows.0 shows.1))

pub on_ok : (result : Result Bool LineFault) (P : Type 0) → P → OnOk result P
on_ok (Ok more) P p = p
on_ok (Err fault) P p = tt

pub lazy_on : {S : Type 0} (before after : S) (old now : List ℕ) → ((after ≡ before) × (now ≡ old)) ⊎ IsOpen old → (IsOpen old → ⊥) → after ≡ before
lazy_on before after old now (inl none) closed = none.0
lazy_on before after old now (inr is_open) closed = absurd (closed is_open)

pub read_told : (result : Result Bool LineFault) (P : Type 0) → IfErr result (λ f. f ≡ Read → P) → result ≡ Err Read → P
read_told result P told is = subst (λ r. IfErr r (λ f. f ≡ Read → P)) is told refl

-- an earlier fault stands
pub has_fault : (old : Option LineFault) (fault : LineFault) → Some fault ≡ old → old ≢ None
has_fault None fault is none = cc
has_fault (Some first) fault is none = cc
