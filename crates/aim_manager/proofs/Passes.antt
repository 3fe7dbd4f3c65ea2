-- The passes of a new manager, for any number of vehicles.
use Rattle.std.proofs.Common.{◌≡◌, ℕ, ◌<◌, List, map, length, get_or, All, arith, refl, sym, subst, ap}
use Rattle.std.specs.List.{range_with_len}
use Rattle.std.proofs.lemmas.List.{length-map}
use Rattle.std.proofs.lemmas.List.Elements.{All-map}
use Rattle.std.proofs.lemmas.List.FromFn.{length-range_with_len, get_or-range_with_len}
use Rattle.aim_messages.specs.declared.entries.Entry.{Entry}
use Rattle.aim_turnstile.specs.Models.{PassModel, TurnstileModel, IsPassOf, new_pass}
use Rattle.aim_manager.specs.declared.keeper.BookSetting.{BookSetting}

-- each is a pass of the manager, and of a vehicle
abbrev pub IsOfVehicle : TurnstileModel BookSetting → PassModel BookSetting Entry → Type 0
IsOfVehicle m p = IsPassOf m p × (p.number < m.setting.vehicles)

pub passes_of_vehicles : (m : TurnstileModel BookSetting) (n : ℕ) (ps : List (PassModel BookSetting Entry)) → ps ≡ map (new_pass m) (range_with_len 0 n) → m.setting.vehicles ≡ n → All (IsOfVehicle m) ps
passes_of_vehicles m n ps is count =
    let each : All (λ k. IsOfVehicle m (new_pass m k)) (range_with_len 0 n) = λ k d l.
    let short : k < n = omega (arith, length-range_with_len 0 n) in
    let low : get_or (range_with_len 0 n) k d < m.setting.vehicles = omega (arith, get_or-range_with_len 0 n k d short, count) in
    (record { table = refl; setting = refl }, low) in
    subst (All (IsOfVehicle m)) (sym is) (All-map (IsOfVehicle m) (new_pass m) (range_with_len 0 n) each)

-- there are as many as there are vehicles
pub passes_count : (m : TurnstileModel BookSetting) (n : ℕ) (ps : List (PassModel BookSetting Entry)) → ps ≡ map (new_pass m) (range_with_len 0 n) → m.setting.vehicles ≡ n → length ps ≡ m.setting.vehicles
passes_count m n ps is count = omega (arith, ap length is, length-map (range_with_len 0 n) (new_pass {E = Entry} m), length-range_with_len 0 n, count)
