use Rattle.std.proofs.Common.{ap, not, ◌∙◌, ℕ, List, arith}
use Rattle.std.specs.Prelude.{bytes_eq}
use Rattle.std.specs.List.{list_any}
use Rattle.aim_messages.specs.Lines.{name_word}
use Rattle.aim_script.specs.declared.names.Key.{Key}
use Rattle.aim_script.specs.Names.{IsPadded}
use Rattle.aim_script.proofs.NameLemmas.{any_same}
use Rattle.aim_script.proofs.names.Names.declare.Goals as goal

pub returns-clause-new : goal.returns-clause-new
returns-clause-new c =
    let k : Key = record { bytes = c.args.name.now.bytes; len = c.args.name.now.len } in
    let padded : IsPadded k = record { long = omega arith; most = c.requires.most; rest = c.requires.rest } in
    c.in_ok-_number.ensures.added ∙ ap not (any_same k c.self.inside.keys.keys padded c.self.invariant) ∙ ap (λ (ns : List (List ℕ)). not (list_any (bytes_eq (name_word c.args.name.now)) ns)) c.self.view_is
