use Rattle.std.proofs.Common.{◌∷◌, [], decimal}
use Rattle.std.specs.Prelude.{codes}
use Rattle.aim_messages.specs.Texts.{body_words, params_words}
use Rattle.aim_messages.proofs.Words.{said, both}
use Rattle.aim_messages.proofs.writing.entries.put_body.Goals as goal

pub returns-in-Request-clause-added : goal.returns-in-Request-clause-added
returns-in-Request-clause-added c =
    said (body_words c.args.seq) _ _ _ _ c.in-Request.is
    (both c.args.out.now c.put_field.new.out c.put_params.new.out (codes "request" ∷ decimal c.args.seq ∷ []) (params_words c.in-Request.params)
    c.put_field.ensures.added c.put_params.ensures.added)

pub returns-in-Change-clause-added : goal.returns-in-Change-clause-added
returns-in-Change-clause-added c =
    let words = codes "change" ∷ decimal c.args.seq ∷ [] in
    let id = decimal c.in-Change.id ∷ [] in
    said (body_words c.args.seq) _ _ _ _ c.in-Change.is
    (both c.args.out.now c.number.new.self c.put_params-in-Change.new.out (codes "change" ∷ decimal c.args.seq ∷ decimal c.in-Change.id ∷ [])
    (params_words c.in-Change.params)
    (both c.args.out.now c.put_field-in-Change.new.out c.number.new.self words id c.put_field-in-Change.ensures.added c.number.ensures.added)
    c.put_params-in-Change.ensures.added)
