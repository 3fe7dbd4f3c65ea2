use Rattle.std.proofs.Common.{◌≡◌, ◌++◌, ◌∙◌, subst}
use Rattle.std.specs.Prelude.{OnOk}
use Rattle.aim_report.proofs.Lines.{stay_spaced, where_ok}
use Rattle.aim_report.proofs.stays.put_text.Goals as goal

pub returns : goal.returns
returns c =
    subst (λ t. OnOk c.extend_from_slice.result (c.extend_from_slice.new.self.items ≡ c.args.out.now.items ++ t))
    (c.line.ensures ∙ rw c.put_words.ensures (stay_spaced c.args.vehicle c.args.stay.now))
    (where_ok c.extend_from_slice.result c.extend_from_slice.new.self.items (c.args.out.now.items ++ c.line.result.now) c.args.out.now.items c.extend_from_slice.ensures.items)
