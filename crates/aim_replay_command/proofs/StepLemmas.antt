-- How one more line changes what is known of a replay.
use Rattle.std.proofs.Common.{◌≡◌, ◌⊎◌, ℕ, ◌+◌, ◌-◌, ◌<◌, ◌≤◌, Fits, w32, Bool, true, false, List, [], length, Option, Some, None, Result, Ok, Err, inl, refl, sym, ap, ◌∙◌, subst, arith}
use Rattle.std.specs.Prelude.{is_err, OnErr, OnOk}
use Rattle.std.specs.Io.KnownBytes.{Consumes, Keeps}
use Rattle.aim_io.specs.Causes.{Rose}
use Rattle.aim_io.specs.declared.lines.LineFault.{LineFault}
use Rattle.aim_io.specs.declared.lines.LineFault.TheVariants as fault
use Rattle.aim_io.specs.Lines.{ShowsNothing}
use Rattle.aim_io.specs.Reader.{Reader, fresh, input, taken_by, after_call, Answers, Needed, IsSound, KnowsEnd}
use Rattle.aim_messages.specs.declared.script.Line.{Line}
use Rattle.aim_script.specs.Spellings.{Spelled}
use Rattle.aim_script.specs.Verdicts.{at_end}
use Rattle.aim_script.specs.declared.headers.Header.{Header}
use Rattle.aim_script.specs.Headers.{Stands as StandsAsHeader}
use Rattle.aim_replay.specs.declared.stages.Stage.{Stage}
use Rattle.aim_replay.specs.declared.stages.Stage.TheVariants as stage
use Rattle.aim_replay.specs.declared.stages.Finish.{Finish}
use Rattle.aim_replay.specs.Stages.{Stands, IsOfLines, MayTake, decision_of}
use Rattle.aim_replay_command.specs.declared.faults.Unwritten.TheVariants as unwritten
use Rattle.aim_replay_command.specs.declared.session.Halt.{Halt}
use Rattle.aim_replay_command.specs.declared.session.Halt.TheVariants as halt
use Rattle.aim_replay_command.specs.declared.session.Stop.{Stop}
use Rattle.aim_replay_command.specs.declared.session.Stop.TheVariants as stop
use Rattle.aim_replay.specs.declared.stages.StageRefusal.TheVariants as refusal
use Rattle.aim_replay_command.specs.Replays.{LastNeededBy}
use Rattle.aim_replay_command.specs.Sessions.{Played, Reached, Responds, at_fault, halted}
use Rattle.aim_replay_command.proofs.SessionLemmas.{Gives, knows_start, may_reached, needed_call, reached_more, reached_settled, reached_start, sound_start}
use Rattle.aim_replay_command.proofs.EndLemmas.{caused_cut, caused_end, caused_fault, caused_halt, ran_cut, ran_end, ran_fault, ran_halt}

-- the last read of a source was needed, if there was one
abbrev pub IsNeeded : {S : Type 0} → Spelled → (S → Option (List ℕ)) → (S → Option ℕ) → S → S → Type 0
IsNeeded w left last first now = (now ≡ first) ⊎ LastNeededBy w (left first) (left now) (last now)

-- what is known between two lines, since a replay began: the stage stands for those that were read, which are so many
pub record Between {S L : Type 0} (w : Spelled) (left : S → Option (List ℕ)) (last : S → Option ℕ) (faults : S → ℕ) (first now : S) (held_old held : Option (List ℕ)) (sink_old sink_new : ℕ) (reader : Reader) (s : Stage L) (number : ℕ) : Type 0 where
  pub reached : Reached w (left first) (input reader (left now)) held_old held reader s
  pub count : number ≡ reader.given
  pub no_fault : reader.fault ≡ None
  pub sound : IsSound reader
  pub knows : KnowsEnd reader (left now)
  pub needed : IsNeeded w left last first now
  pub source : faults first ≤ faults now
  pub sink : sink_old ≤ sink_new

-- no line was read
pub between_start : {S L : Type 0} (w : Spelled) (left : S → Option (List ℕ)) (last : S → Option ℕ) (faults : S → ℕ) (first : S) (held : Option (List ℕ)) (sink : ℕ) (reader : Reader) (h : Header) → reader ≡ fresh → StandsAsHeader [] h
    → Between {L = L} w left last faults first first held held sink sink reader (stage.Header h) 0
between_start {L = L} w left last faults first held sink reader h is st = subst (λ r. Between {L = L} w left last faults first first held held sink sink r (stage.Header h) 0) (sym is) (record {
  reached = reached_start {L = L} w h (left first) held st;
  count = refl;
  no_fault = refl;
  sound = sound_start;
  knows = knows_start (left first);
  needed = inl refl;
  source = omega arith;
  sink = omega arith;
})

-- what holds of an answer that is no error
pub if_settled : {T E : Type 0} (r : Result T E) (P : Type 0) → is_err r ≡ false → OnOk r P → P
if_settled (Ok x) P not p = p
if_settled (Err e) P not p = absurd (cc)

pub if_unsettled : {T E : Type 0} (r : Result T E) (P : Type 0) → is_err r ≡ true → OnErr r P → P
if_unsettled (Ok x) P not p = absurd (cc)
if_unsettled (Err e) P not p = p

-- a fault that is none of the source is no stop of it, and no line is
read_fault : {L : Type 0} (f : LineFault) → at_fault {L = L} f ≡ Err stop.Read → f ≡ fault.Read
read_fault fault.Read is = refl
read_fault (fault.Long number) is = absurd (cc)
read_fault fault.Bytes is = absurd (cc)
read_fault fault.Lines is = absurd (cc)

not_read : {L : Type 0} (number : ℕ) (h : Halt) → halted {L = L} number h ≡ Err stop.Read → ⊥
not_read number (halt.Refused (refusal.Bad why)) is = cc
not_read number (halt.Refused (refusal.Limit which)) is = cc
not_read number (halt.Refused refusal.NoMemory) is = cc
not_read number (halt.Unwritten unwritten.Write) is = cc
not_read number (halt.Unwritten unwritten.NoMemory) is = cc

-- the sink handed on what it kept back, or a part of it
pub between_settled : {S L : Type 0} (w : Spelled) (left : S → Option (List ℕ)) (last : S → Option ℕ) (faults : S → ℕ) (first now : S) (held_old held_mid held_new : Option (List ℕ)) (sink_old sink_mid sink_new : ℕ) (reader : Reader) (s : Stage L) (number : ℕ)
    → Between w left last faults first now held_old held_mid sink_old sink_mid reader s number → Keeps held_mid held_new → sink_mid ≤ sink_new → Between w left last faults first now held_old held_new sink_old sink_new reader s number
between_settled w left last faults first now held_old held_mid held_new sink_old sink_mid sink_new reader s number b kept later = record {
  reached = reached_settled w (left first) (input reader (left now)) held_old held_mid held_new reader s b.reached kept;
  count = b.count;
  no_fault = b.no_fault;
  sound = b.sound;
  knows = b.knows;
  needed = b.needed;
  source = b.source;
  sink = omega (arith, b.sink, later);
}

-- the sink failed before a further line was asked for
pub played_cut : {S L : Type 0} (w : Spelled) (left : S → Option (List ℕ)) (last : S → Option ℕ) (faults : S → ℕ) (first now : S) (held_old held_mid held_new : Option (List ℕ)) (sink_old sink_mid sink_new : ℕ) (reader : Reader) (s : Stage L) (number : ℕ) (settled : Type 0)
    → Between w left last faults first now held_old held_mid sink_old sink_mid reader s number → Keeps held_mid held_new → sink_mid ≤ sink_new → Rose sink_mid sink_new
    → Played {L = L} w (Err stop.Write) (IsNeeded w left last first now) settled (left first) (left now) held_old held_new (faults first) (faults now) sink_old sink_new
played_cut {L = L} w left last faults first now held_old held_mid held_new sink_old sink_mid sink_new reader s number settled b kept later rose = record {
  ran = ran_cut w (left first) (left now) held_old held_new reader s (reached_settled w (left first) (input reader (left now)) held_old held_mid held_new reader s b.reached kept) b.sound;
  last = b.needed;
  asked = λ read. absurd (cc);
  caused = caused_cut {L = L} (faults first) (faults now) sink_old sink_mid sink_new b.source b.sink rose later;
}

module _ {S L : Type 0} (w : Spelled) (left : S → Option (List ℕ)) (last : S → Option ℕ) (faults : S → ℕ) (first before : S) (held_old held_mid : Option (List ℕ)) (sink_old sink_mid : ℕ) (old : Reader) (s : Stage L) (number : ℕ) (settled : Type 0)
    (b : Between w left last faults first before held_old held_mid sink_old sink_mid old s number) where
  pub between_few : number ≤ 262144
  between_few = omega (arith, b.count, b.sound.few)

  pub between_fits : Fits w32 (number + 1)
  between_fits = let few = between_few in omega (arith, few)

  pub between_less : old.given < 262144 → 262144 - (number + 1) < 262144 - number
  between_less room = omega (arith, b.count, room)

  pub between_may : old.given < 262144 → MayTake s
  between_may few = may_reached w (left first) (input old (left before)) held_old held_mid old s b.reached few

  -- the reader was asked for a line more
  module _ (after : S) (new : Reader) (sound : IsSound new) (later : faults before ≤ faults after) (quiet : old.ended ≡ true → after ≡ before) (read : (after ≡ before) ⊎ Needed old (left before) (left after) (last after)) where
    still_needed : IsNeeded w left last first after
    still_needed = needed_call w left last first before after held_old held_mid old s b.reached quiet read b.needed

    source_later : faults first ≤ faults after
    source_later = omega (arith, b.source, later)

    -- it answered a fault
    pub played_fault : (f : LineFault) (came : Result (Finish L) Stop) → came ≡ at_fault f → (f ≡ fault.Read → settled) → Answers old new (input old (left before)) (input new (left after)) (Err f) → new ≡ record old { held = new.held; line = []; fault = Some f }
        → (f ≡ fault.Read → ShowsNothing new.given new.place new.held × (new.ended ≡ false) × Rose (faults before) (faults after)) → Keeps (input old (left before)) (input new (left after))
        → Played w came (IsNeeded w left last first after) settled (left first) (left after) held_old held_mid (faults first) (faults after) sink_old sink_mid
    played_fault f came is asked step same shows keeps = subst (λ r. Played w r (IsNeeded w left last first after) settled (left first) (left after) held_old held_mid (faults first) (faults after) sink_old sink_mid) (sym is) (record {
      ran = ran_fault w (Rose (faults before) (faults after)) (left first) (left before) (left after) held_old held_mid old new s f b.reached step same shows keeps sound;
      last = still_needed;
      asked = λ read. asked (read_fault {L = L} f read);
      caused = caused_fault f (faults first) (faults before) (faults after) sink_old sink_mid b.source later (λ is. (shows is).2) b.sink;
    })

    -- it answered the end of the input
    pub played_end : (x : Finish L) → Answers old new (input old (left before)) (input new (left after)) (Ok false) → Consumes (input old (left before)) (input new (left after)) (taken_by new false) → new ≡ after_call old new false → new.ended ≡ true
        → (KnowsEnd old (left before) → KnowsEnd new (left after)) → ((lines : List Line) → Stands lines s → length lines ≡ number → decision_of x ≡ at_end lines) → ((lines : List Line) → Stands lines s → IsOfLines lines x)
        → Played w (Ok x) (IsNeeded w left last first after) settled (left first) (left after) held_old held_mid (faults first) (faults after) sink_old sink_mid
    played_end x step taken same ended knows decision lines = record {
      ran = ran_end w (left first) (left before) (left after) held_old held_mid old new s x b.reached step (decision b.reached.before b.reached.stands (b.reached.count ∙ sym b.count)) (lines b.reached.before b.reached.stands) (knows b.knows) ended taken same sound;
      last = still_needed;
      asked = λ read. absurd (cc);
      caused = caused_end x (faults first) (faults after) sink_old sink_mid source_later b.sink;
    }

    -- it gave a line, which was answered or wasn't
    module _ (held_new : Option (List ℕ)) (sink_new : ℕ) (line : List ℕ) (gives : Gives old new (input old (left before)) (input new (left after))) (is_line : line ≡ new.line) (sink_later : sink_mid ≤ sink_new) where
      pub played_halt : (h : Halt) (came : Result (Finish L) Stop) → came ≡ halted (number + 1) h → ((lines : List Line) → Stands lines s → Responds {L = L} w lines s line held_mid held_new (Err h)) → (h ≡ halt.Unwritten unwritten.Write → Rose sink_mid sink_new)
          → Played w came (IsNeeded w left last first after) settled (left first) (left after) held_old held_new (faults first) (faults after) sink_old sink_new
      played_halt h came is responds rose =
          let answer = subst (λ l. Responds {L = L} w b.reached.before s l held_mid held_new (Err h)) is_line (responds b.reached.before b.reached.stands) in
          subst (λ r. Played w r (IsNeeded w left last first after) settled (left first) (left after) held_old held_new (faults first) (faults after) sink_old sink_new) (sym is) (record {
            ran = ran_halt w (left first) (left before) (left after) held_old held_mid held_new old new s (number + 1) h b.reached gives sound (ap (λ n. n + 1) b.count) answer;
            last = still_needed;
            asked = λ read. absurd (not_read {L = L} (number + 1) h read);
            caused = caused_halt (number + 1) h (faults first) (faults after) sink_old sink_mid sink_new source_later b.sink sink_later rose;
          })

      pub between_more : (next : Stage L) → (KnowsEnd old (left before) → KnowsEnd new (left after)) → ((lines : List Line) → Stands lines s → Responds {L = L} w lines s line held_mid held_new (Ok next))
          → Between w left last faults first after held_old held_new sink_old sink_new new next (number + 1)
      between_more next knows responds =
          let answer = subst (λ l. Responds {L = L} w b.reached.before s l held_mid held_new (Ok next)) is_line (responds b.reached.before b.reached.stands) in
          record {
            reached = reached_more w (left first) (input old (left before)) (input new (left after)) held_old held_mid held_new old new s next b.reached gives answer;
            count = ap (λ n. n + 1) b.count ∙ sym (ap (λ (r : Reader). r.given) gives.after);
            no_fault = ap (λ (r : Reader). r.fault) gives.after ∙ b.no_fault;
            sound = sound;
            knows = knows b.knows;
            needed = still_needed;
            source = source_later;
            sink = omega (arith, b.sink, sink_later);
          }

-- a line was given, so the reader had room for it
pub room_before : (old new : Reader) (more : Bool) → more ≡ true → new ≡ after_call old new more → IsSound new → old.given < 262144
room_before old new true is after sound = let given : new.given ≡ old.given + 1 = ap (λ (r : Reader). r.given) after in omega (arith, given, sound.few)
room_before old new false is after sound = absurd (cc)
