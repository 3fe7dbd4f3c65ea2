-- The texts of a script of claims that was read.
use Rattle.std.proofs.Common.{◌≡◌, ℕ, ◌⊎◌, inl, inr, List, Option, Some, None, refl, sym, ap, subst, arith}
use Rattle.std.specs.Prelude.{IfSome}
use Rattle.aim_messages.specs.Texts.{spaced}
use Rattle.aim_script_reading.specs.Commands.{IsOfScript}
use Rattle.aim_script_reading.specs.declared.decisions.Refused.TheVariants as refused
use Rattle.aim_script_reading.proofs.EndingLemmas.{IsOf}
use Rattle.aim_shards_command.specs.ClaimTexts.{ClaimRefused, printed, refused_words, status_of}
use Rattle.aim_shards_command.specs.Commands.{IsReport, IsText, IsTextOf, status_after, status_for}
use Rattle.aim_shards_command.specs.Verdicts.{ClaimVerdict, Comes}
use Rattle.aim_shards_command.specs.declared.lines.ShardLine.{ShardLine}

-- a text of these lines, with this reason why they are no whole script, is one of the script of the bytes
of_read : (left : Option (List ℕ)) (lines : List ShardLine) (why : Option ClaimRefused) (text : List ℕ) → Comes lines why left → IsTextOf lines why text → IfSome left (IsOf IsText status_for text (status_after why))
of_read None lines why text comes is = tt
of_read (Some bytes) lines why text comes is = record {
  is = subst (λ (v : ClaimVerdict). IsTextOf v.before v.refused text) (sym comes) is;
  own = ap (λ (v : ClaimVerdict). status_after v.refused) (sym comes);
}

-- a report of a whole script
pub of_whole : (left : Option (List ℕ)) (lines : List ShardLine) (why : Option ClaimRefused) → Comes lines why left → why ≡ None → (text : List ℕ) → IsReport lines text → IfSome left (IsOf IsText status_for text 0)
of_whole left lines why comes none text is = subst (λ (w : Option ClaimRefused). IfSome left (IsOf IsText status_for text (status_after w))) none (of_read left lines why text comes (subst (λ (w : Option ClaimRefused). IsTextOf lines w text) (sym none) is))

-- the line of a script that isn't whole
pub of_refused : (left : Option (List ℕ)) (lines : List ShardLine) (why : Option ClaimRefused) (r : ClaimRefused) → Comes lines why left → why ≡ Some r → IfSome left (IsOf IsText status_for (printed (spaced (refused_words r))) (status_of r))
of_refused left lines why r comes some =
    subst (λ (w : Option ClaimRefused). IfSome left (IsOf IsText status_for (printed (spaced (refused_words r))) (status_after w))) some
    (of_read left lines why (printed (spaced (refused_words r))) comes (subst (λ (w : Option ClaimRefused). IsTextOf lines w (printed (spaced (refused_words r)))) (sym some) refl))

pub is_refusal : (r : ClaimRefused) → IsOfScript (status_of r)
is_refusal (refused.Bad number w) = inr (inl refl)
is_refusal (refused.Limit which) = inr (inr refl)

pub not_zero : {P : Type 0} (r : ClaimRefused) → status_of r ≡ 0 → P
not_zero (refused.Bad number w) zero = absurd (omega (arith, zero))
not_zero (refused.Limit which) zero = absurd (omega (arith, zero))
