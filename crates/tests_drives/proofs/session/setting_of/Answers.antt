use Rattle.std.proofs.Common.{◌∙◌, sym}
use Rattle.aim_line_session.proofs.NameLemmas.{read_name}
use Rattle.tests_drives.proofs.session.setting_of.Goals as goal

pub take-requires : goal.take-requires
take-requires c = read_name c.args.words.now _ _ (sym c.in-Ok.is ∙ c.read_line.ensures)
