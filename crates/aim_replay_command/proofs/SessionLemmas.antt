-- How a replay goes on with one more line, and how it ends.
use Rattle.std.proofs.Common.{◌≡◌, ◌⊎◌, inl, inr, ℕ, ◌+◌, ◌<◌, ◌≤◌, Bool, true, false, List, [], ◌∷◌, ◌++◌, length, Option, Some, None, IfSome, Result, Ok, Err, refl, sym, ap, ◌∙◌, subst, arith, append_assoc, append-nil, length-append}
use Rattle.std.specs.Prelude.{OnErr}
use Rattle.std.specs.List.{AllByRecursion}
use Rattle.std.specs.Bool.{OnTrue, OnFalse}
use Rattle.std.specs.Io.KnownBytes.{Appends, Consumes, Keeps, IsAtEnd, prepend_known}
use Rattle.std.proofs.KnownBytes.{Appends-kept, Appends-nil, Appends-trans, Consumes-trans}
use Rattle.std.proofs.lemmas.Bool.{cases_Bool}
use Rattle.aim_io.specs.declared.lines.LineFault.{LineFault}
use Rattle.aim_io.specs.Known.{AppendsFront}
use Rattle.aim_io.proofs.LoopLemmas.{joined-push}
use Rattle.aim_io.specs.Lines.{InputFault, LongLine, TooManyBytes, TooManyLines, fault_of, Outcome, Line as LineOf, Stop, outcomes_from, IsOpen, ShowsNothing, joined_lines, with_end}
use Rattle.aim_io.specs.Reader.{Reader, fresh, input, coming, taken_by, Needed, Answers, Stops, KnowsEnd, IsSound, after_call}
use Rattle.aim_messages.specs.declared.entries.Entry.{Entry}
use Rattle.aim_messages.specs.declared.script.Line.{Line}
use Rattle.aim_rules.specs.Charts.{chart}
use Rattle.aim_script.specs.declared.decisions.Decision.{Decision}
use Rattle.aim_script.specs.declared.decisions.Decision.TheVariants as decision
use Rattle.aim_script.specs.declared.decisions.Kind.{Kind}
use Rattle.aim_line_session.specs.declared.progress.Answered.{Answered}
use Rattle.aim_line_session.specs.Sessions.{LeadTo, Makes, Stands as StandsAsSession, journal_so_far}
use Rattle.aim_replay.specs.declared.stages.Stage.{Stage}
use Rattle.aim_replay.specs.declared.stages.Stage.TheVariants as stage
use Rattle.aim_script.specs.Said.{layout_of, last_of}
use Rattle.aim_script.specs.Order.{part_after}
use Rattle.aim_script.specs.Verdicts.{Judgement, Verdict, journal_of, number_after, judge, decides, goes_on, of_fault, at_end, verdict_from, verdict}
use Rattle.aim_replay_command.specs.Texts.{chart_lines, entry_lines, ending, text_by}
use Rattle.aim_script.specs.Decided.{printed}
use Rattle.aim_script.specs.Spellings.{Spelled}
use Rattle.aim_script.specs.declared.headers.Header.{Header}
use Rattle.aim_script.specs.declared.headers.Place.{Place}
use Rattle.aim_script.specs.declared.headers.Place.TheVariants as place
use Rattle.aim_script.specs.Headers.{Says, Stands as StandsAsHeader}
use Rattle.aim_script.specs.declared.decisions.Limit.{Limit}
use Rattle.aim_replay.specs.declared.stages.Finish.{Finish}
use Rattle.aim_replay.specs.declared.stages.Finish.TheVariants as finish
use Rattle.aim_replay.specs.Stages.{Stands, IsOfLines, MayTake, decision_of}
use Rattle.aim_line_session.proofs.QuietLemmas.{quiet_header, quiet_set}
use Rattle.aim_line_session.proofs.SessionLemmas.{orders_within}
use Rattle.aim_replay_command.specs.Replays.{LastNeededBy, StopsShortBy, TakesAtMost, Writes, WritesFront, script_after, unless_decided, entries_text}
use Rattle.aim_replay_command.specs.Sessions.{Decides, Placed, Took, Reached, Judged, Responds, Comes, chart_text, ending_text, made_line}
use Rattle.aim_replay_command.proofs.TextLemmas.{entry_lines-append, Begins, is_past, journal_of_begins, nothing_begins}

-- the line of the entry that was made comes behind those of the journal
pub made_after : (w : Spelled) (old new : List Entry) (made : Option Answered) → Makes old new made → entry_lines w 0 new ≡ entry_lines w 0 old ++ made_line w made
made_after w old new None same = rw same (sym (append-nil (entry_lines w 0 old)))
made_after w old new (Some m) (at, more) =
    let place : 0 + length old ≡ m.position = omega arith in
    rw more (entry_lines-append w 0 old (m.entry ∷ []) ∙ ap (λ n. entry_lines w 0 old ++ entry_lines w n (m.entry ∷ [])) place
    ∙ ap (λ (t : List ℕ). entry_lines w 0 old ++ t) (append-nil (printed (w.entry_text m.position m.entry))))

-- the lines of a session stand behind that of the vehicles
past_vehicles : (before : List Line) (ended : Bool) → LeadTo before ended → is_past (part_after (last_of before)) ≡ true
past_vehicles before true lead = rw lead.0 refl
past_vehicles before false lead = rw lead.0 refl

-- the journal so far is the first of that of the whole script
begins : {L : Type 0} (w : Spelled) (before : List Line) (s : Stage L) (os : List Outcome) → Stands before s → Begins (journal_so_far before) (verdict_from w.reads before os)
begins w before (stage.Header h) os st = rw (quiet_header before h st) (nothing_begins (verdict_from w.reads before os))
begins w before (stage.Begin x) os st = rw (quiet_set before x st.0) (nothing_begins (verdict_from w.reads before os))
begins w before (stage.Body p) os st = journal_of_begins w.reads before os (journal_so_far before) (past_vehicles before p.ended st.lead) refl

-- a verdict is made, behind these lines
abbrev pub IsVerdict : Spelled → List Line → Decision → Option (List ℕ) → Type 0
IsVerdict w before d bytes = IfSome bytes (λ bs. verdict w.reads bs ≡ record { before = before; decision = d })

verdict_goes : (w : Spelled) (before : List Line) (l : Line) (line : List ℕ) (os : List Outcome) → judge w.reads before (LineOf line) ≡ goes_on l → verdict_from w.reads before (LineOf line ∷ os) ≡ verdict_from w.reads (before ++ l ∷ []) os
verdict_goes w before l line os is = rw is refl

verdict_stops : (w : Spelled) (before : List Line) (d : Decision) (o : Outcome) (os : List Outcome) → judge w.reads before o ≡ decides d → verdict_from w.reads before (o ∷ os) ≡ record { before = before; decision = d }
verdict_stops w before d o os is = rw is refl

pub decides_more : (w : Spelled) (before : List Line) (l : Line) (old new : Reader) (bytes rest left : Option (List ℕ)) → judge w.reads before (LineOf new.line) ≡ goes_on l → Decides w before old bytes rest → Answers old new rest left (Ok true)
    → Decides w (before ++ l ∷ []) new bytes left
decides_more w before l old new None rest left is decided step = tt
decides_more w before l old new (Some bytes) None left is decided step = absurd decided
decides_more w before l old new (Some bytes) (Some xs) None is decided step = absurd step
decides_more w before l old new (Some bytes) (Some xs) (Some ys) is decided step =
    sym (verdict_goes w before l new.line (coming new ys) is) ∙ ap (verdict_from w.reads before) (sym step) ∙ decided

pub ends_line : (w : Spelled) (before : List Line) (d : Decision) (old new : Reader) (bytes rest left : Option (List ℕ)) → judge w.reads before (LineOf new.line) ≡ decides d → Decides w before old bytes rest → Answers old new rest left (Ok true)
    → IsVerdict w before d bytes
ends_line w before d old new None rest left is decided step = tt
ends_line w before d old new (Some bytes) None left is decided step = absurd decided
ends_line w before d old new (Some bytes) (Some xs) None is decided step = absurd step
ends_line w before d old new (Some bytes) (Some xs) (Some ys) is decided step =
    sym decided ∙ ap (verdict_from w.reads before) step ∙ verdict_stops w before d (LineOf new.line) (coming new ys) is

nothing_comes : (reader : Reader) → coming reader [] ≡ []
unfolding outcomes_from
nothing_comes reader = refl

pub ends_input : (w : Spelled) (before : List Line) (old new : Reader) (bytes rest left : Option (List ℕ)) → Decides w before old bytes rest → Answers old new rest left (Ok false) → IsVerdict w before (at_end before) bytes
ends_input w before old new None rest left decided step = tt
ends_input w before old new (Some bytes) None left decided step = absurd decided
ends_input w before old new (Some bytes) (Some xs) None decided step = absurd step
ends_input w before old new (Some bytes) (Some xs) (Some ys) decided step =
    sym decided ∙ ap (λ (zs : List ℕ). verdict_from w.reads before (coming old zs)) step.0 ∙ ap (verdict_from w.reads before) (nothing_comes old)

-- a fault of the input
stops_there : (old : Reader) (xs : List ℕ) (f : InputFault) → Stops old xs (fault_of f) → coming old xs ≡ Stop f ∷ []
stops_there old xs (LongLine n) stops = stops
stops_there old xs TooManyBytes stops = stops
stops_there old xs TooManyLines stops = stops

pub ends_fault : (w : Spelled) (before : List Line) (old new : Reader) (f : InputFault) (bytes rest left : Option (List ℕ)) → Decides w before old bytes rest → Answers old new rest left (Err (fault_of f)) → IsVerdict w before (of_fault f) bytes
ends_fault w before old new f None rest left decided step = tt
ends_fault w before old new f (Some bytes) None left decided step = absurd decided
ends_fault w before old new f (Some bytes) (Some xs) None decided step = absurd step
ends_fault w before old new f (Some bytes) (Some xs) (Some ys) decided step =
    sym decided ∙ ap (verdict_from w.reads before) (stops_there old xs f step.1) ∙ verdict_stops w before (of_fault f) (Stop f) [] refl

-- a verdict that is made is what the bytes come to
pub told : {L : Type 0} (w : Spelled) (before : List Line) (f : Finish L) (bytes : Option (List ℕ)) → IsVerdict w before (decision_of f) bytes → IsOfLines before f → Comes w f bytes
told w before f None is lines = tt
told w before f (Some bytes) is lines = record {
  decision = ap (λ (v : Verdict). v.decision) is;
  lines = subst (λ (v : Verdict). IsOfLines v.before f) (sym is) lines;
}

-- all entries' lines were written
pub written_all : {L : Type 0} (w : Spelled) (before : List Line) (s : Stage L) (d : Decision) (bytes old new : Option (List ℕ)) → Stands before s → IsVerdict w before d bytes → Appends old new (entry_lines w 0 (journal_so_far before)) → Writes bytes old new (entries_text w)
written_all w before s d None old new st is written = tt
written_all w before s d (Some bytes) old new st is written =
    subst (Appends old new) (sym (ap (λ v. entry_lines w 0 (journal_of v)) is)) written

-- what was written is a front of the entries' lines
pub stops : {L : Type 0} (w : Spelled) (before : List Line) (s : Stage L) (reader : Reader) (bytes rest old new : Option (List ℕ)) (done todo : List ℕ) → Stands before s → Decides w before reader bytes rest → entry_lines w 0 (journal_so_far before) ≡ done ++ todo → Appends old new done
    → WritesFront bytes old new (entries_text w)
stops w before s reader None rest old new done todo st decided split written = tt
stops w before s reader (Some bytes) None old new done todo st decided split written = absurd decided
stops w before s reader (Some bytes) (Some rest) old new done todo st decided split written =
    let b = begins w before s (coming reader rest) st in
    let more = entry_lines w (length (journal_so_far before)) b.rest in
    let text : entries_text w bytes ≡ entry_lines w 0 (journal_so_far before) ++ more =
    ap (λ v. entry_lines w 0 (journal_of v)) (sym decided) ∙ ap (entry_lines w 0) b.all ∙ entry_lines-append w 0 (journal_so_far before) b.rest ∙ ap (λ n. entry_lines w 0 (journal_so_far before) ++ entry_lines w n b.rest) (omega arith) in
    record {
      front = done;
      rest = todo ++ more;
      whole = text ∙ ap (λ (t : List ℕ). t ++ more) split ∙ append_assoc done todo more;
      added = written;
    }

pub stops_whole : {L : Type 0} (w : Spelled) (before : List Line) (s : Stage L) (reader : Reader) (bytes rest old new : Option (List ℕ)) → Stands before s → Decides w before reader bytes rest → Appends old new (entry_lines w 0 (journal_so_far before)) → WritesFront bytes old new (entries_text w)
stops_whole w before s reader bytes rest old new st decided written = stops w before s reader bytes rest old new (entry_lines w 0 (journal_so_far before)) [] st decided (sym (append-nil (entry_lines w 0 (journal_so_far before)))) written

-- what was written of a line whose entry's line the sink didn't take whole
pub stops_inside : {L : Type 0} (w : Spelled) (before : List Line) (s : Stage L) (old new : Reader) (bytes rest left start mid now : Option (List ℕ)) → Decides w before old bytes rest → Answers old new rest left (Ok true) → Appends start mid (entry_lines w 0 (journal_so_far before))
    → (next : Stage L) × (j : Judged {L = L} w before new.line (Ok next)) × (made : Option Answered) × Makes (journal_so_far before) (journal_so_far (before ++ j.0 ∷ [])) made × AppendsFront mid now (made_line w made) → WritesFront bytes start now (entries_text w)
stops_inside w before s old new bytes rest left start mid now decided step written (next, (l, is, st), made, makes, front) =
    let done = Appends-trans start mid now _ _ written front.added in
    let first = entry_lines w 0 (journal_so_far before) in
    let split = made_after w (journal_so_far before) (journal_so_far (before ++ l ∷ [])) made makes ∙ ap (λ (t : List ℕ). first ++ t) front.whole ∙ sym (append_assoc first front.front front.rest) in
    stops w (before ++ l ∷ []) next new bytes left start now (first ++ front.front) front.rest st (decides_more w before l old new bytes rest left is decided step) split done

all_more : (lines : List (List ℕ)) (line : List ℕ) → AllByRecursion IsOpen lines → IsOpen line → AllByRecursion IsOpen (lines ++ line ∷ [])
all_more [] line all last = (last, tt)
all_more (first ∷ lines) line all last = (all.0, all_more lines line all.1 last)

script_more : (w : Spelled) (start before : List Line) (l : Line) (lines : List (List ℕ)) (line : List ℕ) → script_after w.reads start lines ≡ Some before → judge w.reads before (LineOf line) ≡ goes_on l
    → script_after w.reads start (lines ++ line ∷ []) ≡ Some (before ++ l ∷ [])
script_more w start before l [] line is more = let same : start ≡ before = cc in rw (same, more) refl
script_more w start before l (first ∷ lines) line is more = go (judge w.reads start (LineOf first)) is (λ after. script_more w after before l lines line)
  where
    go : (j : Judgement) → unless_decided start j (λ after. script_after w.reads after lines) ≡ Some before
        → ((after : List Line) → script_after w.reads after lines ≡ Some before → judge w.reads before (LineOf line) ≡ goes_on l → script_after w.reads after (lines ++ line ∷ []) ≡ Some (before ++ l ∷ []))
        → unless_decided start j (λ after. script_after w.reads after (lines ++ line ∷ [])) ≡ Some (before ++ l ∷ [])
    go (decides d) is later = absurd (cc)
    go (goes_on m) is later = later (start ++ m ∷ []) is more

-- a line that was taken
pub record Gives (old new : Reader) (rest left : Option (List ℕ)) : Type 0 where
  pub is_open : IsOpen new.line
  pub taken : Consumes rest left (with_end new.ended new.line)
  pub after : new ≡ after_call old new true
  pub going : old.ended ≡ false
  pub step : Answers old new rest left (Ok true)
  pub few : new.given ≤ 262144

pub gives_line : (old new : Reader) (rest left : Option (List ℕ)) (more : Bool) → more ≡ true → OnTrue more (IsOpen new.line) → Consumes rest left (taken_by new more) → new ≡ after_call old new more → OnTrue more (old.ended ≡ false)
    → Answers old new rest left (Ok more) → IsSound new → Gives old new rest left
gives_line old new rest left true is open_line taken after going step sound = record { is_open = open_line; taken = taken; after = after; going = going; step = step; few = sound.few }
gives_line old new rest left false is open_line taken after going step sound = absurd (cc)

took_more : (w : Spelled) (before : List Line) (l : Line) (old new : Reader) (bytes rest left : Option (List ℕ)) → judge w.reads before (LineOf new.line) ≡ goes_on l → Gives old new rest left → new.ended ≡ false → Took w before old bytes rest → Took w (before ++ l ∷ []) new bytes left
took_more w before l old new bytes rest left is gives going took =
    let line = new.line in
    let count : length (took.lines ++ line ∷ []) ≡ new.given = length-append took.lines (line ∷ []) ∙ ap (λ n. n + 1) took.count ∙ sym (ap (λ (r : Reader). r.given) gives.after) in
    let taken : Consumes rest left (line ++ 10 ∷ []) = rw going at gives.taken in
    let size : new.place ≡ old.place + length (line ++ 10 ∷ []) = ap (λ (r : Reader). r.place) gives.after ∙ rw going refl in
    record {
      lines = took.lines ++ line ∷ [];
      taken = subst (Consumes bytes left) (sym (joined-push took.lines line)) (Consumes-trans bytes rest left _ _ took.taken taken);
      whole = record {
        each = all_more took.lines line took.whole.each gives.is_open;
        few = rw count gives.few;
        script = script_more w [] before l took.lines line took.whole.script is;
      };
      count = count;
      place = ap (λ (t : List ℕ). length t) (joined-push took.lines line) ∙ length-append (joined_lines took.lines) (line ++ 10 ∷ []) ∙ ap (λ n. n + length (line ++ 10 ∷ [])) took.place ∙ sym size;
    }

-- what was taken where the source failed
held_back : (bytes rest left : Option (List ℕ)) (all held : List ℕ) → Consumes bytes rest all → Keeps rest (prepend_known held left) → Consumes bytes left (all ++ held)
held_back None rest left all held taken kept = tt
held_back (Some bytes) None left all held taken kept = absurd taken
held_back (Some bytes) (Some xs) None all held taken kept = absurd kept
held_back (Some bytes) (Some xs) (Some ys) all held taken kept = taken ∙ ap (λ (t : List ℕ). all ++ t) (sym kept) ∙ sym (append_assoc all held ys)

-- so many bytes are gone after a call that gave a line, or none at the end
placed_call : (start rest left : Option (List ℕ)) (old new : Reader) (more : Bool) → Placed start rest old.place → Consumes rest left (taken_by new more) → new ≡ after_call old new more → Placed start left new.place
placed_call start rest left old new more placed taken after = record {
  gone = placed.gone ++ taken_by new more;
  taken = Consumes-trans start rest left _ _ placed.taken taken;
  count = length-append placed.gone (taken_by new more) ∙ ap (λ n. n + length (taken_by new more)) placed.count ∙ sym (ap (λ (r : Reader). r.place) after);
}

keeps_same : (bytes : Option (List ℕ)) → Keeps bytes bytes
keeps_same None = tt
keeps_same (Some bytes) = refl

most_held : (start rest left : Option (List ℕ)) (reader : Reader) → Placed start rest reader.place → Keeps rest (input reader left) → IsSound reader → TakesAtMost 67108865 start left
most_held start rest left reader placed kept sound = record {
  bytes = placed.gone ++ reader.held;
  taken = held_back start rest left placed.gone reader.held placed.taken kept;
  within = omega (arith, length-append placed.gone reader.held, placed.count, sound.read);
}

-- no more bytes were taken than a reader takes, after a line, at the end, and after a fault
pub most_call : {L : Type 0} (w : Spelled) (start left after old_held now : Option (List ℕ)) (old new : Reader) (s : Stage L) (more : Bool) → Reached w start (input old left) old_held now old s → Consumes (input old left) (input new after) (taken_by new more) → new ≡ after_call old new more → IsSound new
    → TakesAtMost 67108865 start after
most_call w start left after old_held now old new s more r taken is sound =
    most_held start (input new after) after new (placed_call start (input old left) (input new after) old new more r.placed taken is) (keeps_same (input new after)) sound

pub most_fault : {L : Type 0} (w : Spelled) (start left after old_held now : Option (List ℕ)) (old new : Reader) (s : Stage L) (f : LineFault) → Reached w start (input old left) old_held now old s → new ≡ record old { held = new.held; line = []; fault = Some f } → Keeps (input old left) (input new after) → IsSound new
    → TakesAtMost 67108865 start after
most_fault w start left after old_held now old new s f r is kept sound =
    let place : old.place ≡ new.place = sym (ap (λ (x : Reader). x.place) is) in
    most_held start (input old left) after new (subst (Placed start (input old left)) place r.placed) kept sound

-- after a call that has read, its last read was needed
needed_read : {L : Type 0} (w : Spelled) (bytes before after start now : Option (List ℕ)) (old : Reader) (s : Stage L) (last : Option ℕ) → Reached w bytes (input old before) start now old s → old.ended ≡ false → Needed old before after last → LastNeededBy w bytes after last
needed_read w bytes before after start now old s last r going needed =
    let took = r.took going in
    record {
      lines = took.lines;
      part = needed.part;
      piece = needed.piece;
      taken = held_back bytes (input old before) after (joined_lines took.lines) (needed.part ++ needed.piece) took.taken needed.keeps;
      within = omega (arith, length-append (joined_lines took.lines) needed.part, took.place, needed.shows.within);
      before = r.before;
      whole = took.whole;
      is_open = needed.shows.is_open;
      undecided = λ some. rw took.count (needed.shows.few some);
      told = needed.told;
    }

-- the last of all reads was needed, if there was one
pub needed_call : {L S : Type 0} (w : Spelled) (left : S → Option (List ℕ)) (last : S → Option ℕ) (first before after : S) (start now : Option (List ℕ)) (old : Reader) (s : Stage L) → Reached w (left first) (input old (left before)) start now old s
    → (old.ended ≡ true → after ≡ before) → (after ≡ before) ⊎ Needed old (left before) (left after) (last after)
    → (before ≡ first) ⊎ LastNeededBy w (left first) (left before) (last before) → (after ≡ first) ⊎ LastNeededBy w (left first) (left after) (last after)
needed_call {S = S} w left last first before after start now old s r quiet (inl same) needed = subst (λ (x : S). (x ≡ first) ⊎ LastNeededBy w (left first) (left x) (last x)) (sym same) needed
needed_call {S = S} w left last first before after start now old s r quiet (inr read) needed = elim (cases_Bool old.ended) [
  | inl ended ↦ subst (λ (x : S). (x ≡ first) ⊎ LastNeededBy w (left first) (left x) (last x)) (sym (quiet ended)) needed
  | inr going ↦ inr (needed_read w (left first) (left before) (left after) start now old s (last after) r going read)
]

pub reached_more : {L : Type 0} (w : Spelled) (bytes rest left start mid now : Option (List ℕ)) (old new : Reader) (s next : Stage L) (r : Reached w bytes rest start mid old s) → Gives old new rest left → Responds w r.before s new.line mid now (Ok next)
    → Reached w bytes left start now new next
reached_more w bytes rest left start mid now old new s next r gives responds =
    let l = responds.0.0 in
    let is = responds.0.1 in
    record {
      before = r.before ++ l ∷ [];
      stands = responds.0.2;
      count = length-append r.before (l ∷ []) ∙ ap (λ n. n + 1) r.count ∙ sym (ap (λ (x : Reader). x.given) gives.after);
      decides = decides_more w r.before l old new bytes rest left is r.decides gives.step;
      placed = placed_call bytes rest left old new true r.placed gives.taken gives.after;
      took = λ going. took_more w r.before l old new bytes rest left is gives going (r.took gives.going);
      written = subst (Appends start now) (sym (made_after w (journal_so_far r.before) (journal_so_far (r.before ++ l ∷ [])) responds.1 responds.2)) (Appends-trans start mid now _ _ r.written responds.3);
    }

pub reached_start : {L : Type 0} (w : Spelled) (h : Header) (bytes held : Option (List ℕ)) → StandsAsHeader [] h → Reached {L = L} w bytes (input fresh bytes) held held fresh (stage.Header h)
unfolding outcomes_from
reached_start w h bytes held st = record {
  before = [];
  stands = st;
  count = refl;
  decides = decides_start w bytes;
  placed = placed_start bytes;
  took = λ going. took_start w bytes;
  written = Appends-nil held;
}
  where
    decides_start : (w : Spelled) (bytes : Option (List ℕ)) → Decides w [] fresh bytes (input fresh bytes)
    decides_start w None = tt
    decides_start w (Some bytes) = refl

    placed_start : (bytes : Option (List ℕ)) → Placed bytes (input fresh bytes) 0
    placed_start None = record { gone = []; taken = tt; count = refl }
    placed_start (Some bytes) = record { gone = []; taken = refl; count = refl }

    took_start : (w : Spelled) (bytes : Option (List ℕ)) → Took w [] fresh bytes (input fresh bytes)
    took_start w None = record { lines = []; taken = tt; whole = record { each = tt; few = omega arith; script = refl }; count = refl; place = refl }
    took_start w (Some bytes) = record { lines = []; taken = refl; whole = record { each = tt; few = omega arith; script = refl }; count = refl; place = refl }

pub stops_short : {L : Type 0} (w : Spelled) (bytes rest left start now : Option (List ℕ)) (old new : Reader) (s : Stage L) → Reached w bytes rest start now old s → old.ended ≡ false → new.given ≡ old.given → new.place ≡ old.place → ShowsNothing new.given new.place new.held
    → Keeps rest (input new left) → StopsShortBy w bytes left start now
stops_short w bytes rest left start now old new s r going given place shows kept =
    let took = r.took going in
    record {
      lines = took.lines;
      part = new.held;
      taken = held_back bytes rest left (joined_lines took.lines) new.held took.taken kept;
      within = omega (arith, length-append (joined_lines took.lines) new.held, took.place, place, shows.within);
      is_open = shows.is_open;
      undecided = λ some. rw (took.count, ← given) (shows.few some);
      before = r.before;
      whole = took.whole;
      written = r.written;
    }

may_take : {L : Type 0} (before : List Line) (s : Stage L) → Stands before s → length before < 262144 → MayTake s
may_take before (stage.Header h) st few = tt
may_take before (stage.Begin x) st few = (st.1, (before, st.0))
may_take before (stage.Body p) st few =
    let entries = st.played.few in
    let orders = st.played.few_orders in
    let all = orders_within before in
    (omega arith, omega arith)

pub may_reached : {L : Type 0} (w : Spelled) (bytes rest start now : Option (List ℕ)) (reader : Reader) (s : Stage L) → Reached w bytes rest start now reader s → reader.given < 262144 → MayTake s
may_reached w bytes rest start now reader s r few = may_take r.before s r.stands (omega (arith, r.count))

nil_right : (xs ys : List ℕ) → xs ++ ys ≡ [] → ys ≡ []
nil_right [] ys is = is
nil_right (x ∷ xs) ys is = absurd (cc)

-- nothing was left at the end
pub left_at_end : (reader : Reader) (left : Option (List ℕ)) → KnowsEnd reader left → reader.ended ≡ true → IsAtEnd left
left_at_end reader left knows is = knows is

pub on_true : {P : Type 0} (b : Bool) → b ≡ true → OnTrue b P → P
on_true true is h = h
on_true false is h = absurd (cc)

pub on_false : {P : Type 0} (b : Bool) → b ≡ false → OnFalse b P → P
on_false true is h = absurd (cc)
on_false false is h = h

pub sound_start : IsSound fresh
sound_start = record { few = omega arith; read = omega arith; ended = λ is. refl }

pub knows_start : (left : Option (List ℕ)) → KnowsEnd fresh left
knows_start left is = absurd (cc)

pub front_reached : {L : Type 0} (w : Spelled) (bytes rest start now : Option (List ℕ)) (reader : Reader) (s : Stage L) → Reached w bytes rest start now reader s → WritesFront bytes start now (entries_text w)
front_reached w bytes rest start now reader s r = stops_whole w r.before s reader bytes rest start now r.stands r.decides r.written

-- the sink handed on what it kept back, or a part of it
pub reached_settled : {L : Type 0} (w : Spelled) (bytes rest start mid now : Option (List ℕ)) (reader : Reader) (s : Stage L) → Reached w bytes rest start mid reader s → Keeps mid now → Reached w bytes rest start now reader s
reached_settled w bytes rest start mid now reader s r kept = record {
  before = r.before;
  stands = r.stands;
  count = r.count;
  decides = r.decides;
  placed = r.placed;
  took = r.took;
  written = Appends-kept start mid now _ r.written kept;
}

-- no more bytes were taken than a reader takes, between two lines
pub most_between : {L : Type 0} (w : Spelled) (start left old_held now : Option (List ℕ)) (reader : Reader) (s : Stage L) → Reached w start (input reader left) old_held now reader s → IsSound reader → TakesAtMost 67108865 start left
most_between w start left old_held now reader s r sound = most_held start (input reader left) left reader r.placed (keeps_same (input reader left)) sound

-- nothing more was written
pub written_kept : (start mid now : Option (List ℕ)) (text : List ℕ) → Appends start mid text → Appends mid now [] → Appends start now text
written_kept start mid now text first none = subst (Appends start now) (append-nil text) (Appends-trans start mid now text [] first none)

-- the reader after a fault of the source
pub short_reached : {L : Type 0} (w : Spelled) (bytes left after start now : Option (List ℕ)) (old new : Reader) (f : LineFault) (P : Type 0) (s : Stage L) → Reached w bytes (input old left) start now old s
    → new ≡ record old { held = new.held; line = []; fault = Some f } → ShowsNothing new.given new.place new.held × (new.ended ≡ false) × P → Keeps (input old left) (input new after) → StopsShortBy w bytes after start now
short_reached w bytes left after start now old new f P s r same shows kept =
    let going : old.ended ≡ false = sym (ap (λ (x : Reader). x.ended) same) ∙ shows.1 in
    stops_short w bytes (input old left) after start now old new s r going (ap (λ (x : Reader). x.given) same) (ap (λ (x : Reader). x.place) same) shows.0 kept

pub fault_told : {L : Type 0} (w : Spelled) (bytes rest left start now : Option (List ℕ)) (old new : Reader) (s : Stage L) (f : InputFault) (x : Finish L) → Reached w bytes rest start now old s → Answers old new rest left (Err (fault_of f)) → decision_of x ≡ of_fault f
    → ((before : List Line) → IsOfLines before x) → Comes w x bytes
fault_told w bytes rest left start now old new s f x r step is lines = told w r.before x bytes (subst (λ d. IsVerdict w r.before d bytes) (sym is) (ends_fault w r.before old new f bytes rest left r.decides step)) (lines r.before)

pub fault_written : {L : Type 0} (w : Spelled) (bytes rest left start now : Option (List ℕ)) (old new : Reader) (s : Stage L) (f : InputFault) → Reached w bytes rest start now old s → Answers old new rest left (Err (fault_of f)) → Writes bytes start now (entries_text w)
fault_written w bytes rest left start now old new s f r step = written_all w r.before s (of_fault f) bytes start now r.stands (ends_fault w r.before old new f bytes rest left r.decides step) r.written

pub end_told : {L : Type 0} (w : Spelled) (bytes rest left start now : Option (List ℕ)) (old new : Reader) (s : Stage L) (x : Finish L) (r : Reached w bytes rest start now old s) → Answers old new rest left (Ok false) → decision_of x ≡ at_end r.before
    → IsOfLines r.before x → Comes w x bytes
end_told w bytes rest left start now old new s x r step is lines = told w r.before x bytes (subst (λ d. IsVerdict w r.before d bytes) (sym is) (ends_input w r.before old new bytes rest left r.decides step)) lines

pub end_written : {L : Type 0} (w : Spelled) (bytes rest left start now : Option (List ℕ)) (old new : Reader) (s : Stage L) → Reached w bytes rest start now old s → Answers old new rest left (Ok false) → Writes bytes start now (entries_text w)
end_written w bytes rest left start now old new s r step = written_all w r.before s (at_end r.before) bytes start now r.stands (ends_input w r.before old new bytes rest left r.decides step) r.written

pub bad_told : {L : Type 0} (w : Spelled) (bytes rest left start now : Option (List ℕ)) (old new : Reader) (s : Stage L) (number : ℕ) (kind : Kind) (r : Reached w bytes rest start now old s) → Answers old new rest left (Ok true)
    → judge w.reads r.before (LineOf new.line) ≡ decides (decision.Bad (number_after r.before) kind) → number ≡ old.given + 1 → Comes {L = L} w (finish.Bad number kind) bytes
bad_told {L = L} w bytes rest left start now old new s number kind r step is same =
    let count : number_after r.before ≡ number = omega (arith, r.count, same) in
    let ends = ends_line w r.before (decision.Bad (number_after r.before) kind) old new bytes rest left is r.decides step in
    told {L = L} w r.before (finish.Bad number kind) bytes (subst (λ n. IsVerdict w r.before (decision.Bad n kind) bytes) count ends) tt

pub limit_told : {L : Type 0} (w : Spelled) (bytes rest left start now : Option (List ℕ)) (old new : Reader) (s : Stage L) (which : Limit) (r : Reached w bytes rest start now old s) → Answers old new rest left (Ok true)
    → judge w.reads r.before (LineOf new.line) ≡ decides (decision.Limit which) → Comes {L = L} w (finish.Limit which) bytes
limit_told {L = L} w bytes rest left start now old new s which r step is = told {L = L} w r.before (finish.Limit which) bytes (ends_line w r.before (decision.Limit which) old new bytes rest left is r.decides step) tt

pub bad_written : {L : Type 0} (w : Spelled) (bytes rest left start mid now : Option (List ℕ)) (old new : Reader) (s : Stage L) (d : Decision) (r : Reached w bytes rest start mid old s) → Answers old new rest left (Ok true) → judge w.reads r.before (LineOf new.line) ≡ decides d → Appends mid now []
    → Writes bytes start now (entries_text w)
bad_written w bytes rest left start mid now old new s d r step is none =
    written_all w r.before s d bytes start now r.stands (ends_line w r.before d old new bytes rest left is r.decides step) (written_kept start mid now (entry_lines w 0 (journal_so_far r.before)) r.written none)

pub memory_front : {L : Type 0} (w : Spelled) (bytes rest start mid now : Option (List ℕ)) (reader : Reader) (s : Stage L) → Reached w bytes rest start mid reader s → Appends mid now [] → WritesFront bytes start now (entries_text w)
memory_front w bytes rest start mid now reader s r none = stops_whole w r.before s reader bytes rest start now r.stands r.decides (written_kept start mid now (entry_lines w 0 (journal_so_far r.before)) r.written none)

-- where memory runs out, nothing was written
pub memory_nothing : {L : Type 0} (w : Spelled) (bytes rest start mid now : Option (List ℕ)) (reader : Reader) (s : Stage L) (r : Reached w bytes rest start mid reader s) → journal_so_far r.before ≡ [] → Appends mid now [] → Appends start now []
memory_nothing w bytes rest start mid now reader s r empty none = Appends-trans start mid now [] [] (rw empty at r.written) none

-- a front of the first of two texts is a front of both
pub front_first : (old new : Option (List ℕ)) (first second : List ℕ) → AppendsFront old new first → AppendsFront old new (first ++ second)
front_first old new first second part = record {
  front = part.front;
  rest = part.rest ++ second;
  whole = ap (λ (t : List ℕ). t ++ second) part.whole ∙ append_assoc part.front part.rest second;
  added = part.added;
}

-- a front of the second, behind the first
pub front_second : (old mid new : Option (List ℕ)) (first second : List ℕ) → Appends old mid first → AppendsFront mid new second → AppendsFront old new (first ++ second)
front_second old mid new first second done part = record {
  front = first ++ part.front;
  rest = part.rest;
  whole = ap (λ (t : List ℕ). first ++ t) part.whole ∙ sym (append_assoc first part.front part.rest);
  added = Appends-trans old mid new _ _ done part.added;
}

pub on_err : {T E : Type 0} (r : Result T E) (P Q : Type 0) → (P → Q) → OnErr r P → OnErr r Q
on_err (Ok x) P Q f h = tt
on_err (Err e) P Q f h = f h

-- the chart of the verdict is that of the session
chart_same : {L : Type 0} (asked : Option ℕ) (f : Finish L) (v : Verdict) → IsOfLines v.before f → chart_lines asked (decision_of f) (layout_of v.before) (journal_of v) ≡ chart_text asked v.before f
chart_same None (finish.Whole x) v lines = refl
chart_same None (finish.Bad number kind) v lines = refl
chart_same None (finish.Limit which) v lines = refl
chart_same (Some step) (finish.Whole x) v lines = ap (λ i. chart i (journal_so_far v.before) step) lines.played.layout
chart_same (Some step) (finish.Bad number kind) v lines = refl
chart_same (Some step) (finish.Limit which) v lines = refl

-- the text is the entries' lines, the chart and the last line
text_is : {L : Type 0} (w : Spelled) (asked : Option ℕ) (bytes : List ℕ) (f : Finish L) → Comes w f (Some bytes) → text_by w asked bytes ≡ entries_text w bytes ++ ending_text w asked (verdict w.reads bytes).before f
text_is w asked bytes f comes =
    let v = verdict w.reads bytes in
    ap (λ (d : Decision). entries_text w bytes ++ (chart_lines asked d (layout_of v.before) (journal_of v) ++ printed (w.last_text d))) comes.decision
    ∙ ap (λ (t : List ℕ). entries_text w bytes ++ (t ++ printed (w.last_text (decision_of f)))) (chart_same asked f v comes.lines)

-- the ending was written behind the entries' lines
pub all_written : {L : Type 0} (w : Spelled) (asked : Option ℕ) (bytes start mid now : Option (List ℕ)) (f : Finish L) → Comes w f bytes → Writes bytes start mid (entries_text w) → ((before : List Line) → IsOfLines before f → Appends mid now (ending_text w asked before f)) → Writes bytes start now (text_by w asked)
all_written w asked None start mid now f comes first last = tt
all_written w asked (Some bytes) start mid now f comes first last = subst (Appends start now) (sym (text_is w asked bytes f comes)) (Appends-trans start mid now _ _ first (last (verdict w.reads bytes).before comes.lines))

-- a front of the ending was written behind them
pub front_written : {L : Type 0} (w : Spelled) (asked : Option ℕ) (bytes start mid now : Option (List ℕ)) (f : Finish L) → Comes w f bytes → Writes bytes start mid (entries_text w) → ((before : List Line) → IsOfLines before f → AppendsFront mid now (ending_text w asked before f)) → WritesFront bytes start now (text_by w asked)
front_written w asked None start mid now f comes first last = tt
front_written w asked (Some bytes) start mid now f comes first last =
    let part = last (verdict w.reads bytes).before comes.lines in
    record {
      front = entries_text w bytes ++ part.front;
      rest = part.rest;
      whole = text_is w asked bytes f comes ∙ ap (λ (t : List ℕ). entries_text w bytes ++ t) part.whole ∙ sym (append_assoc (entries_text w bytes) part.front part.rest);
      added = Appends-trans start mid now _ _ first part.added;
    }

-- a front of the entries' lines is a front of the text
pub front_of_text : (w : Spelled) (asked : Option ℕ) (bytes start now : Option (List ℕ)) → WritesFront bytes start now (entries_text w) → WritesFront bytes start now (text_by w asked)
front_of_text w asked None start now front = tt
front_of_text w asked (Some bytes) start now front =
    let v = verdict w.reads bytes in
    let last = ending w asked v (journal_of v) in
    record {
      front = front.front;
      rest = front.rest ++ last;
      whole = ap (λ (t : List ℕ). t ++ last) front.whole ∙ append_assoc front.front front.rest last;
      added = front.added;
    }
