use Rattle.aim_line_session.proofs.NameLemmas.{read_name}
use Rattle.aim_text_session.proofs.reading.read_text.Goals as goal

pub returns-in-Ok-clause-name : goal.returns-in-Ok-clause-name
returns-in-Ok-clause-name c = read_name c.args.words.now c.number.result c.in-Ok.line c.in-Ok.ensures
