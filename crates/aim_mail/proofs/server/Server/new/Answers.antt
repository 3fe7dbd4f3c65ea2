use Rattle.aim_mail.proofs.Opens.{stands_new}
use Rattle.aim_mail.proofs.server.Server.new.Goals as goal

pub invariant_of-result : goal.invariant_of-result
invariant_of-result g c = (
  stands_new _ _ _ _ c.requires.book.0 c.requires.legal c.requires.intake.0 c.requires.book.1 c.sheets_are_those_of_own_entries.ensures.none c.requires.slips,
  c.requires.intake.1,
  c.requires.intake.2,
  c.requires.intake.3,
  c.requires.book.2,
)
