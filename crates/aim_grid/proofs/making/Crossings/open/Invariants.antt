use Rattle.std.proofs.Common.{◌≡◌, ◌≤◌, map, length, vec_len}
use Rattle.std.specs.Prelude.{All, vec_capacity}
use Rattle.std.specs.List.{AllZip}
use Rattle.aim_layout.specs.Valid.{IsValid}
use Rattle.aim_turnstile.specs.Models.{TurnstileModel}
use Rattle.aim_grid.specs.BookSetting.{BookSetting}
use Rattle.aim_grid.specs.Making.{AreNew, setting_in, setting_of}
use Rattle.aim_grid.proofs.making.Crossings.open.Given as goal

abbrev pub invariant-loop-layout : goal.invariant-loop-layout
invariant-loop-layout l = record {
  count : vec_len l.managers ≡ length l.yielded;
  as_many : vec_len l.all ≡ length l.yielded;
  room : vec_len l.fn.layouts ≤ vec_capacity l.managers;
  as_much : vec_len l.fn.layouts ≤ vec_capacity l.all;
  settings : map setting_in l.managers.items ≡ map (setting_of l.vehicles) l.yielded;
  valid : All (λ (m : TurnstileModel BookSetting). IsValid m.setting.layout) l.managers.items;
  seats : AllZip AreNew l.managers.items l.all.items;
}
