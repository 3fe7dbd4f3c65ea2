use Rattle.std.proofs.Common.{ap, ◌∙◌, ℕ, List, arith}
use Rattle.std.specs.Prelude.{bytes_eq, position}
use Rattle.aim_messages.specs.Lines.{name_word}
use Rattle.aim_script.specs.declared.names.Key.{Key}
use Rattle.aim_script.specs.Names.{IsPadded}
use Rattle.aim_script.proofs.NameLemmas.{position_same}
use Rattle.aim_script.proofs.names.Names.number.Goals as goal

pub returns : goal.returns
returns c =
    let k : Key = record { bytes = c.args.name.now.bytes; len = c.args.name.now.len } in
    let padded : IsPadded k = record { long = omega arith; most = c.requires.most; rest = c.requires.rest } in
    c.get_index_of.ensures.index ∙ position_same k c.self.inside.keys.keys padded c.self.invariant ∙ ap (λ (ns : List (List ℕ)). position (bytes_eq (name_word c.args.name.now)) ns) c.self.view_is
