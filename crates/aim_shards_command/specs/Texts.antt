-- What a run of a script prints.
use Rattle.std.specs.Prelude.{ℕ, Bool, List, [], ◌∷◌, ◌++◌, length, codes, decimal, if◌then◌else◌}
use Rattle.aim_messages.specs.Texts.{Words, spaced}
use Rattle.aim_shards.specs.declared.claims.ClaimAct.{ClaimAct}
use Rattle.aim_shards.specs.declared.claims.ClaimAct.TheVariants as act
use Rattle.aim_shards.specs.declared.claims.ClaimEntry.{ClaimEntry}
use Rattle.aim_shards_command.specs.ClaimTexts.{printed}

abbrev pub act_words : ClaimAct → Words
act_words (act.Claim set) = codes "claim" ∷ decimal set ∷ []
act_words (act.Free ticket) = codes "free" ∷ decimal ticket ∷ []

abbrev pub answer_word : Bool → List ℕ
answer_word granted = if granted then codes "yes" else codes "no"

-- TICKET CALLER claim SET yes, TICKET CALLER free TICKET yes, or the same with no
abbrev pub claim_words : ClaimEntry → Words
claim_words e = decimal e.ticket ∷ decimal e.caller ∷ (act_words e.act ++ answer_word e.yes ∷ [])

abbrev pub claim_line : ClaimEntry → List ℕ
claim_line e = printed (spaced (claim_words e))

abbrev pub claim_lines : List ClaimEntry → List ℕ
claim_lines [] = []
claim_lines (e ∷ es) = claim_line e ++ claim_lines es

abbrev pub end_words : ℕ → Words
end_words n = codes "end" ∷ decimal n ∷ []

-- the lines of all entries, and their count
abbrev pub history_text : List ClaimEntry → List ℕ
history_text log = claim_lines log ++ printed (spaced (end_words (length log)))
