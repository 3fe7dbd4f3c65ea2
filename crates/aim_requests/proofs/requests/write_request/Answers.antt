use Rattle.std.proofs.Common.{◌≡◌, ◌∙◌, Some, None, true, if◌then◌else◌, length, length-take, ap, arith, refl, sym}
use Rattle.std.specs.Option.{option_or}
use Rattle.aim_messages.specs.declared.replies.Field.TheVariants as field
use Rattle.aim_rules.specs.Bad.{needs_too_many_spans}
use Rattle.aim_footprint.specs.Fields.{bad_crossing}
use Rattle.aim_footprint.proofs.FieldLemmas.{fields}
use Rattle.aim_requests.proofs.requests.write_request.Goals as goal

pub write_trials-requires-clause-rects : goal.write_trials-requires-clause-rects
write_trials-requires-clause-rects c =
    let same : length c.stations-count.result.now ≡ length c.in-Some-of.path = rw c.stations-count.ensures.stations refl in
    let most = c.stations-count.ensures.most in
    length-take _ _ ∙ omega arith

pub returns-in-Ok-clause-steady : goal.returns-in-Ok-clause-steady
returns-in-Ok-clause-steady c = c.in-Ok.ensures.steady

pub returns-in-Ok-clause-fast : goal.returns-in-Ok-clause-fast
returns-in-Ok-clause-fast c = c.in-Ok.ensures.fast

pub returns-in-Ok-clause-steps : goal.returns-in-Ok-clause-steps
returns-in-Ok-clause-steps c = c.in-Ok.ensures.steps

pub returns-in-Ok-clause-unmade : goal.returns-in-Ok-clause-unmade
returns-in-Ok-clause-unmade c = c.in-Ok.ensures.unmade

pub returns-in-Ok-clause-first_room : goal.returns-in-Ok-clause-first_room
returns-in-Ok-clause-first_room c = c.write_trials.ensures.first_room

pub returns-in-Ok-clause-second_room : goal.returns-in-Ok-clause-second_room
returns-in-Ok-clause-second_room c = c.write_trials.ensures.second_room

pub returns-in-Err-clause-first_empty : goal.returns-in-Err-clause-first_empty
returns-in-Err-clause-first_empty c = ap (λ sheet. sheet.spans) c.clear.ensures

pub returns-in-Err-clause-second_empty : goal.returns-in-Err-clause-second_empty
returns-in-Err-clause-second_empty c = ap (λ sheet. sheet.spans) c.clear-in-Err.ensures

pub returns-in-Err-clause-first_room : goal.returns-in-Err-clause-first_room
returns-in-Err-clause-first_room c = ap (λ sheet. sheet.room) c.clear.ensures ∙ c.write_trials.ensures.first_room

pub returns-in-Err-clause-second_room : goal.returns-in-Err-clause-second_room
returns-in-Err-clause-second_room c = ap (λ sheet. sheet.room) c.clear-in-Err.ensures ∙ c.write_trials.ensures.second_room

pub returns-in-Some-clause-field : goal.returns-in-Some-clause-field
returns-in-Some-clause-field c =
    let i = c.args.layout.now in
    let p = c.args.params.now in
    sym (fields i p ∙ ap (λ o. option_or o (if needs_too_many_spans i p then Some field.Spans else None)) (sym c.bad_crossing.ensures ∙ c.in-Some.is))

pub returns-in-Err-clause-field : goal.returns-in-Err-clause-field
returns-in-Err-clause-field c =
    let i = c.args.layout.now in
    let p = c.args.params.now in
    let none : bad_crossing i p ≡ None = sym c.bad_crossing.ensures ∙ c.in_default.is in
    let full : needs_too_many_spans i p ≡ true = c.in-Err.ensures.full in
    sym (fields i p ∙ ap (λ o. option_or o (if needs_too_many_spans i p then Some field.Spans else None)) none ∙ ap (λ b. if b then Some field.Spans else None) full)
