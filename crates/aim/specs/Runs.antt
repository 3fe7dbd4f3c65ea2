-- What the program does by its words: one line a command, and what all commands share.
use Rattle.std.specs.Prelude.{◌≡◌, ◌⊎◌, ◌≤◌, ℕ, false, List, [], Option, None, Some, IfSome, codes}
use Rattle.std.specs.Io.KnownBytes.{Appends, IsAtEnd}
use Rattle.aim_io.specs.Causes.{Rose}
use Rattle.aim_io.specs.Known.{AppendsFront}
use Rattle.aim_script_reading.specs.Commands.{Completes, Ends as EndsCommand, IsOfScript, Puts, Reports, Streams}
use Rattle.aim_script.specs.Spellings.{Spelled, by_words}
use Rattle.aim_replay_command.specs.Replays.{LastNeededBy, ReplaysBy, StopsShortBy, TakesAtMost, WritesFront}
use Rattle.aim_replay_command.specs.Spelling.{by_json}
use Rattle.aim_replay_command.specs.Texts.{status_by, text_by}
use Rattle.aim_session_command.specs.Commands.{HoldsSession}
use Rattle.aim_drive_script.specs.Verdicts.{drive_rules}
use Rattle.aim_drive_command.specs.Commands.{IsText as IsTextOfDrive, status_for as status_of_drive}
use Rattle.aim_drive_command.specs.Generated.{IsSummary}
use Rattle.aim_drive_command.specs.Traffic.{traffic_text}
use Rattle.aim_grid_script.specs.Verdicts.{grid_rules}
use Rattle.aim_grid_command.specs.Commands.{IsText as IsTextOfGrid, status_for as status_of_grid}
use Rattle.aim_shards_command.specs.Verdicts.{claim_rules}
use Rattle.aim_shards_command.specs.Commands.{IsText as IsTextOfClaims, status_for as status_of_claims}
use Rattle.aim_mail_script.specs.Verdicts.{event_rules}
use Rattle.aim_mail_command.specs.Commands.{IsText as IsTextOfMail, status_for as status_of_mail}
use Rattle.aim.specs.declared.words.Command.{Command}
use Rattle.aim.specs.declared.words.Command.TheVariants.{Replay, Chart, ReplayJson, Session, Drive, Grid, Generate, Traffic, Shards, Mail, Help, Version}
use Rattle.aim.specs.Help.{text_of, versions}

-- a status with which what is written is whole
abbrev pub IsWhole : ℕ → Type 0
IsWhole status = (status ≡ 0) ⊎ ((status ≡ 2) ⊎ ((status ≡ 3) ⊎ (status ≡ 6)))

-- a status with which a run may end
abbrev pub IsStatus : ℕ → Type 0
IsStatus status = (status ≡ 0) ⊎ ((status ≡ 2) ⊎ ((status ≡ 3) ⊎ ((status ≡ 4) ⊎ ((status ≡ 5) ⊎ ((status ≡ 6) ⊎ (status ≡ 7))))))

-- With status 0 such a text is written, with status 5 a front of one, with 7 nothing, and there is no other status.
pub record Prints (IsText : List ℕ → Type 0) (old new : Streams) (result : ℕ) : Type 0 where
  pub whole : result ≡ 0 → (text : List ℕ) × IsText text × Appends old.held new.held text
  pub front : result ≡ 5 → (text : List ℕ) × IsText text × AppendsFront old.held new.held text
  pub nothing : result ≡ 7 → Appends old.held new.held []
  pub statuses : (result ≡ 0) ⊎ ((result ≡ 5) ⊎ (result ≡ 7))

-- What a replay does with a script in this spelling, with the chart of that step. With status 0, 3 or 6 the whole text of the source's bytes is written, and the
-- status is theirs; else a front of it, with 7 nothing but where reading takes memory. With status 4 no whole line that was read decides, and the lines of the
-- entries of all of them are written and handed on. Whatever the status, no more than one byte past the greatest input is taken, and nothing is read behind bytes
-- that decide: `unread` says that nothing was read, `settled` that the sink keeps nothing back, and `last` is what the last read gave.
pub record Replays (w : Spelled) (asked : Option ℕ) (unread settled : Type 0) (last : Option ℕ) (old new : Streams) (result : ℕ) : Type 0 where
  pub whole : IsOfScript result → IfSome old.left (λ bytes. ReplaysBy w asked bytes old.held new.held result)
  pub ended : result ≡ 0 → IsAtEnd new.left
  pub front : (result ≡ 4) ⊎ ((result ≡ 5) ⊎ (result ≡ 7)) → WritesFront old.left old.held new.held (text_by w asked)
  pub nothing : w.takes_memory ≡ false → result ≡ 7 → Appends old.held new.held []
  pub short : result ≡ 4 → StopsShortBy w old.left new.left old.held new.held
  pub waited : result ≡ 4 → settled
  pub most : TakesAtMost 67108865 old.left new.left
  pub needed : unread ⊎ LastNeededBy w old.left new.left last
  pub complete : IfSome old.left (λ bytes. Completes (status_by w) bytes old new result)
  pub ends : EndsCommand old new result

-- what each command does: a replay, of words or of JSON lines, with the chart that the words ask for
abbrev pub Does : Command → Type 0 → Type 0 → Option ℕ → Streams → Streams → ℕ → Type 0
Does Replay unread settled last old new result = Replays by_words None unread settled last old new result
Does (Chart step) unread settled last old new result = Replays by_words (Some step) unread settled last old new result
Does ReplayJson unread settled last old new result = Replays by_json None unread settled last old new result
-- A session. What is written are the answers to the lines, one by one: the entry that a line makes behind those that were taken, or why it isn't taken; and last
-- what ended it, behind which nothing is read. So the entries that are printed are the journal of the lines that were taken, whatever stood between them.
Does Session unread settled last old new result = HoldsSession by_words unread settled last old new result
-- A drive, in so many runs side by side: THE HEADLINE. The text of a whole script is the report of a journal and logs of which the headline holds, by the
-- script's lines.
Does (Drive workers) unread settled last old new result = Reports drive_rules (IsTextOfDrive workers) status_of_drive unread last old new result
-- Routes over several crossings. The text of a whole script is the report of a journal and logs for each crossing: each journal is legal, each leg that is begun
-- is what its driver follows, a further one is begun exactly where the leg before got the Ack that answers its DONE, and at each crossing no two drivers, nor a
-- driver and another lane's green, have one tile in one step.
Does (Grid workers) unread settled last old new result = Reports grid_rules IsTextOfGrid status_of_grid unread last old new result
-- A script of events over a mailbox. The text of a whole script has the entries of one legal journal without an order, in which each vehicle's entries are its
-- events in the script's order.
Does (Mail workers) unread settled last old new result = Reports event_rules IsTextOfMail status_of_mail unread last old new result
-- A script of claims. The text of a whole script has one legal history of them.
Does (Shards workers) unread settled last old new result = Reports claim_rules IsTextOfClaims status_of_claims unread last old new result
-- Generated traffic: the counts of a drive of its script, with one worker, of a journal and logs of which the headline holds; and the script itself.
Does (Generate number count) unread settled last old new result = unread × Prints (IsSummary number count) old new result
Does (Traffic number count) unread settled last old new result = unread × Prints (λ text. text ≡ traffic_text number count) old new result
-- what the words are, or what a word does, and the versions
Does (Help topic) unread settled last old new result = unread × Puts (text_of topic) 0 old.held new.held old.sink_faults new.sink_faults result
Does Version unread settled last old new result = unread × Puts versions 0 old.held new.held old.sink_faults new.sink_faults result

-- each status has its cause, and the counts of faults don't fall
pub record Ends (old new : Streams) (result : ℕ) : Type 0 where
  pub read : result ≡ 4 → Rose old.source_faults new.source_faults
  pub write : result ≡ 5 → Rose old.sink_faults new.sink_faults
  pub source : old.source_faults ≤ new.source_faults
  pub sink : old.sink_faults ≤ new.sink_faults
  pub statuses : IsStatus result

-- What the program does by the command that its words name. Where they are outside the table nothing is read, and the usage is put; status 2 comes for no others.
pub record Answers (told : Option Command) (unread settled : Type 0) (last : Option ℕ) (old new : Streams) (result : ℕ) : Type 0 where
  pub outside : told ≡ None → unread × Puts (codes "usage\n") 2 old.held new.held old.sink_faults new.sink_faults result
  pub inside : result ≡ 2 → told ≡ None
  pub does : (command : Command) → told ≡ Some command → Does command unread settled last old new result
  pub ends : Ends old new result

-- the status stays, and where what was written is whole all of it is settled; or it is whole, and the sink has failed
abbrev pub Settles : ℕ → Type 0 → ℕ → ℕ → ℕ → Type 0
Settles status settled sink sink' result = ((result ≡ status) × (IsWhole status → settled)) ⊎ ((result ≡ 5) × IsWhole status × Rose sink sink')
