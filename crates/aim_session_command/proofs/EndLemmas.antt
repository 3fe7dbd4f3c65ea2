-- What a session came to, and the status.
use Rattle.std.proofs.Common.{◌≡◌, ◌⊎◌, inl, inr, ℕ, ◌≤◌, List, ◌++◌, Option, Some, None, IfSome, Ok, Err, refl, sym, ap, ◌∙◌, subst, arith, append_assoc}
use Rattle.std.proofs.KnownBytes.{Appends-trans}
use Rattle.std.specs.Io.KnownBytes.{Appends}
use Rattle.aim_io.specs.Causes.{Rose}
use Rattle.aim_io.specs.Known.{AppendsFront}
use Rattle.aim_script.specs.declared.decisions.Decision.{Decision}
use Rattle.aim_script.specs.declared.decisions.Decision.TheVariants as decision
use Rattle.aim_script.specs.Decided.{printed, status_of}
use Rattle.aim_script.specs.Spellings.{Spelled}
use Rattle.aim_script_reading.specs.Commands.{Streams}
use Rattle.aim_session_command.proofs.LineLemmas.{rose_behind}
use Rattle.aim_session_command.specs.declared.sessions.Stop.TheVariants as stop
use Rattle.aim_session_command.specs.Answered.{IsSession}
use Rattle.aim_session_command.specs.Commands.{HoldsSession, LastNeeded, WritesFront}
use Rattle.aim_session_command.specs.Held.{Ended, Runs}

if_some : {X : Type 0} {P Q : X → Type 0} (it : Option X) → ((x : X) → P x → Q x) → IfSome it P → IfSome it Q
if_some None f p = tt
if_some (Some x) f p = f x p

statuses_of : (d : Decision) → (status_of d ≡ 0) ⊎ ((status_of d ≡ 3) ⊎ (status_of d ≡ 6))
statuses_of (decision.Whole n) = inl refl
statuses_of (decision.Bad n why) = inr (inl refl)
statuses_of (decision.Limit which) = inr (inr refl)

of_script : (d : Decision) → (status_of d ≡ 0) ⊎ ((status_of d ≡ 3) ⊎ ((status_of d ≡ 4) ⊎ ((status_of d ≡ 5) ⊎ ((status_of d ≡ 6) ⊎ (status_of d ≡ 7)))))
of_script (decision.Whole n) = inl refl
of_script (decision.Bad n why) = inr (inl refl)
of_script (decision.Limit which) = inr (inr (inr (inr (inl refl))))

-- the session of bytes whose lines were answered
session_of : (w : Spelled) (bytes : List ℕ) (old now : Option (List ℕ)) (d : Decision) (e : Ended w bytes old now d) → IsSession w bytes (e.answers ++ printed (w.last_text d)) d
session_of w bytes old now d e = record { lines = e.lines; more = e.more; taken = e.taken; answers = e.answers; begun = e.begun; last = e.last; whole = refl }

-- a front of the last line was written
front_last : (w : Spelled) (left held mid now : Option (List ℕ)) (d : Decision) → IfSome left (λ bytes. Ended w bytes held mid d) → AppendsFront mid now (printed (w.last_text d)) → IfSome left (λ bytes. WritesFront w bytes held now)
front_last w left held mid now d whole part = if_some left (λ bytes e. record {
  text = e.answers ++ printed (w.last_text d);
  is = inl (d, session_of w bytes held mid d e);
  written = record {
    front = e.answers ++ part.front;
    rest = part.rest;
    whole = ap (λ (x : List ℕ). e.answers ++ x) part.whole ∙ sym (append_assoc e.answers part.front part.rest);
    added = Appends-trans held mid now e.answers part.front e.written part.added;
  };
}) whole

-- how a session ended of which the last read was needed, if there was one
module _ {w : Spelled} {old new : Streams} (unread settled : Type 0) (last : Option ℕ) (needed : unread ⊎ LastNeeded w old.left new.left last) where
  -- the sink has failed
  holds_front : IfSome old.left (λ bytes. WritesFront w bytes old.held new.held) → Rose old.sink_faults new.sink_faults → old.source_faults ≤ new.source_faults → old.sink_faults ≤ new.sink_faults → HoldsSession w unread settled last old new 5
  holds_front front rose source up = record {
    whole = λ other. absurd (omega (arith, other));
    short = λ four. absurd (omega (arith, four));
    waited = λ four. absurd (omega (arith, four));
    front = λ _. front;
    memory = λ seven. absurd (omega (arith, seven));
    needed = needed;
    ends = record { read = λ four. absurd (omega (arith, four)); write = λ _. rose; source = source; sink = up; statuses = inr (inr (inr (inl refl))) };
  }

  pub holds_cut : Runs w (Err stop.Write) old.left new.left old.held new.held old.source_faults new.source_faults old.sink_faults new.sink_faults → HoldsSession w unread settled last old new 5
  holds_cut r = holds_front (r.front refl) (r.write refl) r.source r.sink

  -- memory has run out
  pub holds_out : Runs w (Err stop.NoMemory) old.left new.left old.held new.held old.source_faults new.source_faults old.sink_faults new.sink_faults → HoldsSession w unread settled last old new 7
  holds_out r = record {
    whole = λ other. absurd (omega (arith, other));
    short = λ four. absurd (omega (arith, four));
    waited = λ four. absurd (omega (arith, four));
    front = λ five. absurd (omega (arith, five));
    memory = λ _. r.memory refl;
    needed = needed;
    ends = record { read = λ four. absurd (omega (arith, four)); write = λ five. absurd (omega (arith, five)); source = r.source; sink = r.sink; statuses = inr (inr (inr (inr (inr refl)))) };
  }

  -- the source has failed
  pub holds_short : Runs w (Err stop.Read) old.left new.left old.held new.held old.source_faults new.source_faults old.sink_faults new.sink_faults → settled → HoldsSession w unread settled last old new 4
  holds_short r handed = record {
    whole = λ other. absurd (omega (arith, other));
    short = λ _. r.short refl;
    waited = λ _. handed;
    front = λ five. absurd (omega (arith, five));
    memory = λ seven. absurd (omega (arith, seven));
    needed = needed;
    ends = record { read = λ _. r.read refl; write = λ five. absurd (omega (arith, five)); source = r.source; sink = r.sink; statuses = inr (inr (inl refl)) };
  }

  -- it came to a last line, of which a front was written
  pub holds_cut_last : {mid : Option (List ℕ)} {sink : ℕ} (d : Decision) → Runs w (Ok d) old.left new.left old.held mid old.source_faults new.source_faults old.sink_faults sink → AppendsFront mid new.held (printed (w.last_text d)) → Rose sink new.sink_faults → sink ≤ new.sink_faults
      → HoldsSession w unread settled last old new 5
  holds_cut_last {mid = mid} {sink = sink} d r part rose up =
      holds_front (front_last w old.left old.held mid new.held d r.whole part) (rose_behind old.sink_faults sink new.sink_faults r.sink rose) r.source (omega (arith, r.sink, up))

  -- which was written
  holds_whole : {mid : Option (List ℕ)} {sink : ℕ} (d : Decision) → Runs w (Ok d) old.left new.left old.held mid old.source_faults new.source_faults old.sink_faults sink → Appends mid new.held (printed (w.last_text d)) → sink ≤ new.sink_faults
      → HoldsSession w unread settled last old new (status_of d)
  holds_whole {mid = mid} d r put up =
      let s = statuses_of d in record {
        whole = λ _. if_some old.left (λ bytes e. record {
          text = e.answers ++ printed (w.last_text d);
          decision = d;
          is = session_of w bytes old.held mid d e;
          written = Appends-trans old.held mid new.held e.answers (printed (w.last_text d)) e.written put;
          status = refl;
        }) r.whole;
        short = λ four. absurd (omega (arith, four, s));
        waited = λ four. absurd (omega (arith, four, s));
        front = λ five. absurd (omega (arith, five, s));
        memory = λ seven. absurd (omega (arith, seven, s));
        needed = needed;
        ends = record {
          read = λ four. absurd (omega (arith, four, s));
          write = λ five. absurd (omega (arith, five, s));
          source = r.source;
          sink = omega (arith, r.sink, up);
          statuses = of_script d;
        };
      }

  pub holds_ended : {mid : Option (List ℕ)} {sink : ℕ} (d : Decision) (result : ℕ) → result ≡ status_of d → Runs w (Ok d) old.left new.left old.held mid old.source_faults new.source_faults old.sink_faults sink → Appends mid new.held (printed (w.last_text d)) → sink ≤ new.sink_faults
      → HoldsSession w unread settled last old new result
  holds_ended d result is r put up = subst (λ (x : ℕ). HoldsSession w unread settled last old new x) (sym is) (holds_whole d r put up)
