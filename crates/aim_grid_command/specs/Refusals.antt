-- What is printed of a script that isn't whole, and the status of each.
use Rattle.std.specs.Prelude.{ℕ, List, [], ◌∷◌, codes, decimal}
use Rattle.aim_messages.specs.Texts.{Words, spaced}
use Rattle.aim_script.specs.declared.decisions.Decision.TheVariants as plain
use Rattle.aim_script.specs.Decided.{decision_words, printed}
use Rattle.aim_grid_script.specs.declared.decisions.GridDecision.{GridDecision}
use Rattle.aim_grid_script.specs.declared.decisions.GridDecision.TheVariants as decision
use Rattle.aim_grid_script.specs.declared.decisions.GridKind.{GridKind}
use Rattle.aim_grid_script.specs.declared.decisions.GridKind.TheVariants as kind

-- the words where the line of that number is at fault
abbrev pub bad_words : ℕ → GridKind → Words
bad_words number (kind.Plain why) = decision_words (plain.Bad number why)
bad_words number kind.Crossing = codes "bad" ∷ codes "line" ∷ decimal number ∷ codes "crossing" ∷ []
bad_words number kind.Route = codes "bad" ∷ codes "line" ∷ decimal number ∷ codes "route" ∷ []

-- the one line of a script that isn't whole: a whole one has none
abbrev pub refusal_text : GridDecision → List ℕ
refusal_text (decision.Bad number why) = printed (spaced (bad_words number why))
refusal_text (decision.Limit which) = printed (spaced (decision_words (plain.Limit which)))
refusal_text decision.Whole = []

abbrev pub status_of : GridDecision → ℕ
status_of (decision.Bad number why) = 3
status_of (decision.Limit which) = 6
status_of decision.Whole = 0
