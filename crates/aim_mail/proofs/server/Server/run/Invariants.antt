use Rattle.std.proofs.Common.{◌<◌, ℕ}
use Rattle.aim_mail.specs.Mail.{Stands, IsSameBook, AreSameSlips, IsSameIntake, HasEnded, letters_of}
use Rattle.aim_mail.proofs.server.Server.run.Given as goal

abbrev pub invariant-loop-client : goal.invariant-loop-client
invariant-loop-client g l = record {
  stands : Stands l.desk.book (letters_of l.intake) l.intake.got l.slips.items;
  book : IsSameBook l.initial.desk.book l.desk.book;
  intake : IsSameIntake l.initial.intake l.intake;
  slips : AreSameSlips l.initial.slips.items l.slips.items;
  ended : (p : ℕ) → p < l.client → HasEnded l.slips.items p;
}
