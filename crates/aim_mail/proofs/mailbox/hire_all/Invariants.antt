use Rattle.std.proofs.Common.{◌≡◌, ◌≤◌}
use Rattle.std.specs.Prelude.{vec_capacity}
use Rattle.aim_mail.specs.Mail.{IsStaffed, setting_of}
use Rattle.aim_mail.proofs.mailbox.hire_all.Given as goal

abbrev pub invariant-loop-vehicle : goal.invariant-loop-vehicle
invariant-loop-vehicle g l = record {
  staffed : IsStaffed (setting_of l.book) l.vehicle l.staff.intake l.staff.slips.items l.staff.clients.items;
  slip_room : l.vehicles ≤ vec_capacity l.staff.slips;
  client_room : l.vehicles ≤ vec_capacity l.staff.clients;
}
