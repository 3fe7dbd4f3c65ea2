use Rattle.aim_mail.specs.Mail.{Stands, IsSameBook, AreSameSlips, IsSameIntake, letters_of}
use Rattle.aim_mail.proofs.server.serve_until.Given as goal

abbrev pub invariant-loop : goal.invariant-loop
invariant-loop g l = record {
  stands : Stands l.desk.book (letters_of l.intake) l.intake.got l.slips.items;
  book : IsSameBook l.initial.desk.book l.desk.book;
  intake : IsSameIntake l.initial.intake l.intake;
  slips : AreSameSlips l.initial.slips.items l.slips.items;
}
