use Rattle.std.proofs.Common.{◌∙◌, sym}
use Rattle.aim_line_session.proofs.NameLemmas.{read_name}
use Rattle.aim_line_session.proofs.progress.Progress.take_words.Goals as goal

pub take-requires-clause-name : goal.take-requires-clause-name
take-requires-clause-name g c = read_name c.args.words.now _ _ (sym c.in-Ok.is ∙ c.read_line.ensures)
