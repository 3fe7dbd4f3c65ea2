-- Worked scripts of claims: which lines are at fault, and what whole ones say; and what is refused of a run.
use Rattle.std.proofs.Common.{◌≡◌, ◌++◌, ℕ, ◌≤◌, Bool, true, false, ◌||◌, List, [], ◌∷◌, Option, Some, None, refl, sym, ap, ◌∙◌, subst, true≢false, arith}
use Rattle.std.specs.Prelude.{codes}
use Rattle.std.specs.Fmt.{digits}
use Rattle.aim_io.specs.Lines.{outcomes_from}
use Rattle.aim_messages.specs.declared.script.LineKind.TheVariants as read
use Rattle.aim_script_reading.specs.declared.decisions.Refused.TheVariants as refused
use Rattle.aim_script_reading.specs.declared.decisions.Why.TheVariants as why
use Rattle.aim_sheets.specs.Spans.{in_spans}
use Rattle.aim_shards.specs.Cuts.{spans_at}
use Rattle.aim_shards.specs.declared.claims.ClaimAct.{ClaimAct}
use Rattle.aim_shards.specs.declared.claims.ClaimAct.TheVariants as act
use Rattle.aim_shards.specs.declared.claims.ClaimEntry.{ClaimEntry}
use Rattle.aim_shards.specs.declared.rectangles.Rectangle.{Rectangle}
use Rattle.aim_shards_command.specs.declared.decisions.ClaimKind.TheVariants as kind
use Rattle.aim_shards_command.specs.declared.lines.ShardLine.{ShardLine}
use Rattle.aim_shards_command.specs.declared.lines.ShardLine.TheVariants as line
use Rattle.aim_shards_command.specs.declared.script.ClaimTerms.{ClaimTerms}
use Rattle.aim_shards_command.specs.declared.script.ClaimAsk.TheVariants as ask
use Rattle.aim_shards_command.specs.ClaimTexts.{ClaimRefused}
use Rattle.aim_shards_command.specs.Running.{IsRun}
use Rattle.aim_shards_command.specs.Said.{asked_of, sets_of, terms_of}
use Rattle.aim_shards_command.specs.Verdicts.{verdict}

-- two sets on a grid of 8 rows and columns, with 100 steps and two callers
abbrev small : List ℕ
small = codes "shards 8 100 2\nset 0 3 0 3 0 9\nset 2 5 2 5 5 14\n"

abbrev refused_of : List ℕ → Option ClaimRefused
refused_of bytes = let v = verdict bytes in v.refused

abbrev lines_of : List ℕ → List ShardLine
lines_of bytes = let v = verdict bytes in v.before

abbrev whole : List ℕ
whole = small ++ codes "claim 0 0\nclaim 1 1\nfree 0 0\nclaim 0 1\nend\n"

pub a_whole_script : refused_of whole ≡ None
unfolding digits outcomes_from
a_whole_script = refl

pub the_end_right_behind_the_terms : refused_of (codes "shards 64 8192 64\nend\n") ≡ None
unfolding digits outcomes_from
the_end_right_behind_the_terms = refl

-- what the first of them says

pub terms_of_it : terms_of (lines_of whole) ≡ record { n = 8; horizon = 100; callers = 2 }
unfolding digits outcomes_from
terms_of_it = refl

pub sets_of_it : sets_of (lines_of whole) ≡ record { row0 = 0; row1 = 3; col0 = 0; col1 = 3; from = 0; to = 9 } ∷ record { row0 = 2; row1 = 5; col0 = 2; col1 = 5; from = 5; to = 14 } ∷ []
unfolding digits outcomes_from
sets_of_it = refl

pub asked_by_the_first : asked_of 0 (lines_of whole) ≡ ask.Claim 0 ∷ ask.Free 0 ∷ ask.Claim 1 ∷ []
unfolding digits outcomes_from
asked_by_the_first = refl

pub asked_by_the_second : asked_of 1 (lines_of whole) ≡ ask.Claim 1 ∷ []
unfolding digits outcomes_from
asked_by_the_second = refl

-- lines at fault

pub no_terms : refused_of (codes "set 0 0 0 0 0 0\n") ≡ Some (refused.Bad 1 (why.Fault kind.Order))
unfolding digits outcomes_from
no_terms = refl

pub too_many_rows : refused_of (codes "shards 65 100 2\n") ≡ Some (refused.Bad 1 (why.Fault kind.Shards))
unfolding digits outcomes_from
too_many_rows = refl

pub too_many_steps : refused_of (codes "shards 8 8193 2\n") ≡ Some (refused.Bad 1 (why.Fault kind.Shards))
unfolding digits outcomes_from
too_many_steps = refl

pub no_callers : refused_of (codes "shards 8 100 0\n") ≡ Some (refused.Bad 1 (why.Fault kind.Shards))
unfolding digits outcomes_from
no_callers = refl

pub a_set_off_the_grid : refused_of (codes "shards 8 100 2\nset 0 3 0 8 0 9\n") ≡ Some (refused.Bad 2 (why.Fault kind.Set))
unfolding digits outcomes_from
a_set_off_the_grid = refl

pub a_set_past_the_steps : refused_of (codes "shards 8 100 2\nset 0 3 0 3 0 100\n") ≡ Some (refused.Bad 2 (why.Fault kind.Set))
unfolding digits outcomes_from
a_set_past_the_steps = refl

pub a_set_that_falls : refused_of (codes "shards 8 100 2\nset 3 2 0 3 0 9\n") ≡ Some (refused.Bad 2 (why.Fault kind.Set))
unfolding digits outcomes_from
a_set_that_falls = refl

pub a_set_of_too_many_rows : refused_of (codes "shards 64 8192 2\nset 0 63 0 0 0 63\nset 0 63 0 0 0 64\n") ≡ Some (refused.Bad 3 (why.Fault kind.Set))
unfolding digits outcomes_from
a_set_of_too_many_rows = refl

pub a_call_of_no_caller : refused_of (small ++ codes "claim 1 0\nclaim 2 0\n") ≡ Some (refused.Bad 5 (why.Fault kind.Call))
unfolding digits outcomes_from
a_call_of_no_caller = refl

pub a_claim_of_no_set : refused_of (small ++ codes "claim 1 1\nclaim 1 2\n") ≡ Some (refused.Bad 5 (why.Fault kind.Call))
unfolding digits outcomes_from
a_claim_of_no_set = refl

pub the_call_of_another : refused_of (small ++ codes "claim 1 0\nfree 0 0\n") ≡ Some (refused.Bad 5 (why.Fault kind.Call))
unfolding digits outcomes_from
the_call_of_another = refl

pub a_set_behind_a_call : refused_of (small ++ codes "claim 1 0\nset 0 0 0 0 0 0\n") ≡ Some (refused.Bad 5 (why.Fault kind.Order))
unfolding digits outcomes_from
a_set_behind_a_call = refl

pub nothing_behind_the_end : refused_of (small ++ codes "end\nend\n") ≡ Some (refused.Bad 5 (why.Fault kind.Order))
unfolding digits outcomes_from
nothing_behind_the_end = refl

pub no_end : refused_of small ≡ Some (refused.Bad 4 why.End)
unfolding digits outcomes_from
no_end = refl

pub too_few_words : refused_of (small ++ codes "claim 0\n") ≡ Some (refused.Bad 4 (why.Fault (kind.Spelling read.Words)))
unfolding digits outcomes_from
too_few_words = refl

-- runs

-- a script in which a caller claims one set twice
abbrev both : List ShardLine
both = line.Shards 8 100 2 ∷ line.Set (0 ∷ 3 ∷ 0 ∷ 3 ∷ 0 ∷ 9 ∷ []) ∷ line.Claim 0 0 ∷ line.Claim 0 0 ∷ line.End ∷ []

abbrev entry : ℕ → ℕ → ClaimAct → Bool → ClaimEntry
entry ticket caller a granted = record { ticket = ticket; caller = caller; act = a; yes = granted }

-- what is asked for is called with
pub lost_calls : IsRun both [] → ⊥
lost_calls x = x.acts 0 (omega arith)

-- nobody else calls
pub stranger : (lines : List ShardLine) → terms_of lines ≡ record { n = 8; horizon = 100; callers = 2 } → IsRun lines (entry 0 2 (act.Claim 0) true ∷ []) → ⊥
stranger lines is x = cc (x.others 2 (subst (λ (t : ClaimTerms). t.callers ≤ 2) (sym is) (omega arith)))

-- tickets begin with 0
pub a_ticket_left_out : (lines : List ShardLine) → IsRun lines (entry 1 0 (act.Claim 0) true ∷ []) → ⊥
a_ticket_left_out lines x = cc x.history.0

-- the second of two claims of one set isn't granted
pub granted_twice : IsRun both (entry 0 0 (act.Claim 0) true ∷ entry 1 0 (act.Claim 0) true ∷ []) → ⊥
granted_twice x =
    let r : Rectangle = record { row0 = 0; row1 = 3; col0 = 0; col1 = 3; from = 0; to = 9 } in
    let there : in_spans (spans_at x.sets 0) (record { row = 0; col = 0; step = 0 }) ≡ true = x.are.cells 0 r (record { row = 0; col = 0; step = 0 }) (omega arith) in
    let free : (in_spans (spans_at x.sets 0) (record { row = 0; col = 0; step = 0 }) || false) ≡ false = x.history.2.1 (record { row = 0; col = 0; step = 0 }) there in
    let taken : (in_spans (spans_at x.sets 0) (record { row = 0; col = 0; step = 0 }) || false) ≡ true = ap (λ b. b || false) there in
    true≢false (sym taken ∙ free)
