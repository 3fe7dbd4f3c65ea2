use Rattle.std.proofs.Common.{◌≡◌, ◌≤◌, length}
use Rattle.aim_requests.specs.Written.{IsWritten}
use Rattle.aim_requests.proofs.trials.write_steps.Given as goal

abbrev pub invariant-loop-t : goal.invariant-loop-t
invariant-loop-t l = record {
  written : IsWritten l.layout l.params l.fast l.rects l.reaches l.windows.outer l.windows.inner l.sheet.spans l.t;
  fits : length l.sheet.spans ≤ l.sheet.room;
  room : l.sheet.room ≡ l.fn.sheet.room;
}
