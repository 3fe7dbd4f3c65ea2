use Rattle.std.proofs.Common.{◌∙◌, Some, None, ap, sym, if◌then◌else◌}
use Rattle.std.specs.Option.{option_or}
use Rattle.aim_messages.specs.declared.replies.Field.TheVariants as field
use Rattle.aim_rules.specs.Bad.{needs_too_many_spans}
use Rattle.aim_footprint.proofs.FieldLemmas.{fields}
use Rattle.aim_requests.proofs.bounds.bad_field.Goals as goal

pub returns-in-Some-clause-field : goal.returns-in-Some-clause-field
returns-in-Some-clause-field c =
    let i = c.args.layout.now in
    let p = c.args.params.now in
    sym (fields i p ∙ ap (λ o. option_or o (if needs_too_many_spans i p then Some field.Spans else None)) (sym c.bad_crossing.ensures ∙ c.in-Some.is))
