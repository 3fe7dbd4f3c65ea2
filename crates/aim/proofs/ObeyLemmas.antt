-- What a command does, by what its call promises, and what the program does by its words.
use Rattle.std.proofs.Common.{◌≡◌, ◌∙◌, ◌⊎◌, inl, inr, ℕ, ◌≤◌, List, Option, None, Some, IfSome, codes, subst, arith}
use Rattle.aim_io.specs.Causes.{Rose}
use Rattle.aim_script_reading.specs.Commands.{Completes, Ends as EndsCommand, IsOfScript, Puts, Streams}
use Rattle.aim_script.specs.Spellings.{Spelled}
use Rattle.aim_replay_command.specs.Replays.{ReplaysBy}
use Rattle.aim_replay_command.specs.Texts.{status_by}
use Rattle.aim.specs.declared.words.Command.{Command}
use Rattle.aim.specs.Runs.{Answers, Does, Ends, IsStatus}

-- a whole script, and a source and a sink that didn't fail, give status 0, or memory has run out
pub replay_completes : (w : Spelled) (asked : Option ℕ) (old new : Streams) (result : ℕ) → (IsOfScript result → IfSome old.left (λ bytes. ReplaysBy w asked bytes old.held new.held result)) → EndsCommand old new result
    → IfSome old.left (λ bytes. Completes (status_by w) bytes old new result)
replay_completes w asked old new result whole ends = go old.left whole
  where
    given : (bytes : List ℕ) → (IsOfScript result → ReplaysBy w asked bytes old.held new.held result) → Completes (status_by w) bytes old new result
    given bytes theirs zero read write = elim ends.statuses [
      | inl e ↦ inl e
      | inr t ↦ elim t [
        | inl e ↦ inl ((theirs (inr (inl e))).status ∙ zero)
        | inr t ↦ elim t [
          | inl e ↦ absurd (read (ends.read e))
          | inr t ↦ elim t [
            | inl e ↦ absurd (write (ends.write e))
            | inr t ↦ elim t [ inl e ↦ inl ((theirs (inr (inr e))).status ∙ zero) | inr e ↦ inr e ]
          ]
        ]
      ]
    ]

    go : (o : Option (List ℕ)) → (IsOfScript result → IfSome o (λ bytes. ReplaysBy w asked bytes old.held new.held result)) → IfSome o (λ bytes. Completes (status_by w) bytes old new result)
    go None theirs = tt
    go (Some bytes) theirs = given bytes theirs

module _ {unread settled : Type 0} {last : Option ℕ} {old new : Streams} {result : ℕ} where
  -- the command that the words name
  answered : (told : Option Command) (command it : Command) → told ≡ Some command → command ≡ it → Does it unread settled last old new result → Ends old new result → (result ≡ 2 → ⊥) → Answers told unread settled last old new result
  answered told command it named is does ends other = record {
    outside = λ none. absurd (cc);
    inside = λ two. absurd (other two);
    does = λ that same. subst (λ (x : Command). Does x unread settled last old new result) (one that same) does;
    ends = ends;
  }
    where
      one : (that : Command) → told ≡ Some that → it ≡ that
      one that same = cc

  -- a command that reads a script
  pub reads : (told : Option Command) (command it : Command) → told ≡ Some command → command ≡ it → Does it unread settled last old new result → EndsCommand old new result → Answers told unread settled last old new result
  reads told command it named is does ends =
      answered told command it named is does (record { read = ends.read; write = ends.write; source = ends.source; sink = ends.sink; statuses = inside ends.statuses }) (λ two. absurd (omega (arith, two, ends.statuses)))
    where
      inside : (result ≡ 0) ⊎ ((result ≡ 3) ⊎ ((result ≡ 4) ⊎ ((result ≡ 5) ⊎ ((result ≡ 6) ⊎ (result ≡ 7))))) → IsStatus result
      inside (inl zero) = inl zero
      inside (inr other) = inr (inr other)

  -- a command that reads nothing
  pub prints : (told : Option Command) (command it : Command) → told ≡ Some command → command ≡ it → Does it unread settled last old new result → (result ≡ 0) ⊎ ((result ≡ 5) ⊎ (result ≡ 7))
      → (result ≡ 5 → Rose old.sink_faults new.sink_faults) → old.source_faults ≤ new.source_faults → old.sink_faults ≤ new.sink_faults → Answers told unread settled last old new result
  prints told command it named is does all write source sink =
      answered told command it named is does (record { read = λ four. absurd (omega (arith, four, all)); write = write; source = source; sink = sink; statuses = statuses all }) (λ two. absurd (omega (arith, two, all)))
    where
      statuses : (result ≡ 0) ⊎ ((result ≡ 5) ⊎ (result ≡ 7)) → IsStatus result
      statuses (inl zero) = inl zero
      statuses (inr (inl five)) = inr (inr (inr (inr (inl five))))
      statuses (inr (inr seven)) = inr (inr (inr (inr (inr (inr seven)))))

  -- a text that is told
  pub tells : (text : List ℕ) (told : Option Command) (command it : Command) → told ≡ Some command → command ≡ it → Does it unread settled last old new result → Puts text 0 old.held new.held old.sink_faults new.sink_faults result
      → old.source_faults ≤ new.source_faults → old.sink_faults ≤ new.sink_faults → Answers told unread settled last old new result
  tells text told command it named is does (inl p) source sink = prints told command it named is does (inl p.0) (λ five. absurd (omega (arith, p.0, five))) source sink
  tells text told command it named is does (inr p) source sink = prints told command it named is does (inr (inl p.0)) (λ five. p.2) source sink

  -- words outside the table
  pub tells_usage : (told : Option Command) → told ≡ None → unread → Puts (codes "usage\n") 2 old.held new.held old.sink_faults new.sink_faults result → old.source_faults ≤ new.source_faults → old.sink_faults ≤ new.sink_faults
      → Answers told unread settled last old new result
  tells_usage told none still puts source sink = record {
    outside = λ _. (still, puts);
    inside = λ _. none;
    does = λ command same. absurd (cc);
    ends = ends puts;
  }
    where
      ends : Puts (codes "usage\n") 2 old.held new.held old.sink_faults new.sink_faults result → Ends old new result
      ends (inl p) = record { read = λ four. absurd (omega (arith, p.0, four)); write = λ five. absurd (omega (arith, p.0, five)); source = source; sink = sink; statuses = inr (inl p.0) }
      ends (inr p) = record { read = λ four. absurd (omega (arith, p.0, four)); write = λ _. p.2; source = source; sink = sink; statuses = inr (inr (inr (inr (inl p.0)))) }
