-- What the bytes that a reader holds say of the next line, and what the calls behind `advance` do with it. No public clause
-- cites it: only contracts of private functions.
use Rattle.std.specs.Prelude.{◌≡◌, ◌⊎◌, ◌≤◌, ◌<◌, ℕ, ◌+◌, List, [], length, take, drop, Bool, true, false, nat_lt, if◌then◌else◌, Some, Ok, Err, Result, ⊤}
use Rattle.std.specs.declared.option.Option.{Option}
use Rattle.std.specs.Io.KnownBytes.{Keeps}
use Rattle.aim_io.specs.declared.lines.LineFault.{LineFault}
use Rattle.aim_io.specs.declared.lines.LineFault.TheVariants.{Read, Long, Bytes, Lines}
use Rattle.aim_io.specs.declared.lines.Look.{Look}
use Rattle.aim_io.specs.declared.lines.Look.TheVariants as look
use Rattle.aim_io.specs.Causes.{Rose}
use Rattle.aim_io.specs.Lines.{EndsAt, IsOpen, ShowsFault, ShowsNothing}
use Rattle.aim_io.specs.Reader.{Reader, input, KnowsEnd, Needed}

-- the next line has its end here, within all limits
pub record ShowsLine (given place : ℕ) (held : List ℕ) (len : ℕ) : Type 0 where
  pub few : given < 262144
  pub short : len ≤ 400
  pub ends : EndsAt held len
  pub within : place + len + 1 ≤ 67108864

abbrev pub SaysOf : ℕ → ℕ → List ℕ → Look → Type 0
SaysOf given place held (look.Line len) = ShowsLine given place held len
SaysOf given place held (look.Stop fault) = ShowsFault given place held fault
SaysOf given place held look.Open = ShowsNothing given place held

-- A reader has read pieces behind what it held, and only where that showed nothing of the next line yet. What is still to
-- come stays as it was.
pub record ReadOn {S : Type 0} (left : S → Option (List ℕ)) (faults : S → ℕ) (last_read : S → Option ℕ) (old new : Reader) (before after : S) : Type 0 where
  pub same : new ≡ record old { held = new.held; line = new.line }
  pub keeps : Keeps (input old (left before)) (input new (left after))
  pub knows : KnowsEnd old (left before) → KnowsEnd new (left after)
  pub later : faults before ≤ faults after
  pub ahead : ((after ≡ before) × (new.held ≡ old.held)) ⊎ IsOpen old.held
  pub begins : take (length old.held) new.held ≡ old.held
  pub needed : (after ≡ before) ⊎ Needed old (left before) (left after) (last_read after)
  pub quiet : old.ended ≡ true → after ≡ before

-- the fault that stands next: what is held shows it, or the source failed, whose count of faults was `before`
abbrev pub FaultNext : Reader → ℕ → ℕ → LineFault → Type 0
FaultNext reader before after Read = ShowsNothing reader.given reader.place reader.held × (reader.ended ≡ false) × Rose before after
FaultNext reader before after (Long number) = ShowsFault reader.given reader.place reader.held (Long number)
FaultNext reader before after Bytes = ShowsFault reader.given reader.place reader.held Bytes
FaultNext reader before after Lines = ShowsFault reader.given reader.place reader.held Lines

-- what stands next, where `AtEnd` says that the input ends behind what is held
abbrev pub ShowsNext : Reader → ℕ → ℕ → Type 0 → Look → Type 0
ShowsNext reader before after AtEnd (look.Line len) = ShowsLine reader.given reader.place reader.held len
ShowsNext reader before after AtEnd (look.Stop fault) = FaultNext reader before after fault
ShowsNext reader before after AtEnd look.Open = ShowsNothing reader.given reader.place reader.held × AtEnd

-- the reader behind the line of so many bytes that it holds with its end
abbrev pub behind_line : Reader → ℕ → Reader
behind_line now len = record now {
  held = drop (len + 1) now.held;
  line = take len now.held;
  given = now.given + 1;
  place = now.place + len + 1;
}

-- the reader behind all that it holds
abbrev pub behind_all : Reader → Bool → Reader
behind_all now more = record now {
  held = [];
  line = now.held;
  given = now.given + (if more then 1 else 0);
  place = now.place + length now.held;
  ended = true;
}

-- what is held shows the line or the end that is to be answered
abbrev pub CanAnswer : Reader → Look → Type 0
CanAnswer old (look.Line len) = ShowsLine old.given old.place old.held len
CanAnswer old (look.Stop fault) = ⊤
CanAnswer old look.Open = ShowsNothing old.given old.place old.held

-- what is answered, and the reader behind it
abbrev pub Answered : Reader → Reader → Look → Result Bool LineFault → Type 0
Answered old new (look.Line len) result = (result ≡ Ok true) × (new ≡ behind_line old len) × (new.ended ≡ false)
Answered old new (look.Stop fault) result = (result ≡ Err fault) × (new ≡ record old { line = []; fault = Some fault })
Answered old new look.Open result = (result ≡ Ok (nat_lt 0 (length old.held))) × (new ≡ behind_all old (nat_lt 0 (length old.held)))
