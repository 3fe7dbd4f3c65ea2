use Rattle.std.proofs.Common.{◌≡◌, ◌+◌}
use Rattle.aim_mail.proofs.client.move_over.Given as goal

abbrev pub invariant-loop : goal.invariant-loop
invariant-loop l = record {
  all : l.back.count + l.sheets.count ≡ l.initial.back.count + l.initial.sheets.count;
  left : l.sheets.count + l.counter ≡ l.initial.sheets.count;
  same : l.sheets.room ≡ l.back.room;
  room : l.back.room ≡ l.initial.back.room;
}
