use Rattle.std.proofs.Common.{◌≡◌, List, ◌++◌, map}
use Rattle.aim_mail.specs.Post.{Every}
use Rattle.aim_mail.specs.Mail.{Gone, Found}
use Rattle.aim_mail.proofs.server.settle.Given as goal

abbrev pub invariant-loop-end : goal.invariant-loop-end
invariant-loop-end g l = record {
  got : l.intake.got ≡ l.initial.intake.got;
  table : l.intake.table ≡ l.initial.intake.table;
  key : l.intake.key ≡ l.initial.intake.key;
  slips : l.slips.items ≡ l.initial.slips.items;
  gone : (gs : List Gone) × (l.initial.ended.items ≡ l.ended.items ++ map (λ x. x.client) gs) × (l.intake.known ≡ map (λ x. (x.client.vehicle, x.sent)) gs) × Every (Found l.initial.slips.items) gs;
}

abbrev pub decreases-loop-end : goal.decreases-loop-end
decreases-loop-end g l = goal.left-loop-end g l
