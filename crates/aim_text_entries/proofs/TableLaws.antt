-- Tables of words.
use Rattle.std.proofs.Common.{ℕ, List, [], ◌∷◌, take, Bool, true, false, Result}
use Rattle.std.specs.Prelude.{codes}
use Rattle.aim_messages.specs.declared.replies.Field.{Field}
use Rattle.aim_messages.specs.declared.replies.Field.TheVariants as field
use Rattle.aim_messages.specs.declared.script.LineKind.{LineKind}
use Rattle.aim_messages.specs.Texts.{Words}
use Rattle.aim_text_entries.specs.Entries.{fields, field_of, paces, is_fast}
use Rattle.aim_text_words.specs.Steps.{Gives, read_in, choice_in}
use Rattle.aim_text_words.proofs.TableLaws.{said, choice_read, two_said}

abbrev field_rows : List (List ℕ × Field)
field_rows =
    (codes "lane", field.Lane)
    ∷ (codes "turn", field.Turn)
    ∷ (codes "arrive", field.Arrive)
    ∷ (codes "max", field.Max)
    ∷ (codes "speed", field.Speed)
    ∷ (codes "accel", field.Accel)
    ∷ (codes "length", field.Length)
    ∷ (codes "width", field.Width)
    ∷ (codes "steps", field.Steps)
    ∷ (codes "spans", field.Spans)
    ∷ (codes "latest", field.Latest)
    ∷ []

pub field_read : (r : Result Field LineKind) (left ws : Words) → Gives r left (choice_in field_rows ws) → Gives r left (read_in fields field_of ws)
field_read = choice_read _ _ _ (said (take 10 field_rows) (codes "latest", field.Latest))

pub pace_read : (r : Result Bool LineKind) (left ws : Words) → Gives r left (choice_in ((codes "fast", true) ∷ (codes "steady", false) ∷ []) ws) → Gives r left (read_in paces is_fast ws)
pace_read = choice_read _ _ _ (two_said (codes "fast") (codes "steady"))
