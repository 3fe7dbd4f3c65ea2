use Rattle.aim_mail.specs.Calls.{IsSameClient}
use Rattle.tests_manager.proofs.mailbox.requests.Given as goal

-- the client stays the same client
abbrev pub invariant-loop-place : goal.invariant-loop-place
invariant-loop-place g l = IsSameClient l.initial.client l.client
