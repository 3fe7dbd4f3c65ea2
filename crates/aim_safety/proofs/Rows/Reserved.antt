-- Who entered on another vehicle's Confirm has no crossing of its own, and no tile was reserved for it.
use Rattle.std.proofs.Common.{◌≡◌, ℕ, List, [], ◌∷◌, Option, Some, slice_get, arith, sym, ap, subst}
use Rattle.std.specs.Prelude.{option_map}
use Rattle.aim_messages.specs.declared.entries.Entry.{Entry}
use Rattle.aim_geometry.specs.Cells.{Cell}
use Rattle.aim_rules.proofs.Rows.{small}
use Rattle.aim_driver.specs.declared.logs.Entrance.{Entrance}
use Rattle.aim_driver.specs.declared.logs.LogItem.{LogItem}
use Rattle.aim_driver.specs.declared.logs.LogItem.TheVariants as item
use Rattle.aim_safety.specs.Reserved.{Crosses, IsReserved}
use Rattle.aim_safety.proofs.Rows.Drives.{h}

-- entry 9 is a Confirm of vehicle 0
abbrev stranger : List LogItem
stranger = item.Entered 24 9 ∷ []

caller_of_nine : (e : Entry) → slice_get h 9 ≡ Some e → 0 ≡ e.caller
caller_of_nine e at =
    let callers : ◌≡◌ {A = Option ℕ} (Some 0) (Some e.caller) = ap (option_map (λ (x : Entry). x.caller)) at in
    cc callers

pub no_crossing : Crosses small h 1 stranger (record { step = 24; id = 9 }) → ⊥
no_crossing x =
    let of_zero = caller_of_nine x.entry x.granted.stands in
    let of_one = x.granted.own in
    absurd (omega (arith, of_zero, of_one))

pub no_reservation : (c : Cell) → IsReserved small h 1 stranger c → ⊥
no_reservation c x =
    let ids : ◌≡◌ {A = Option ℕ} (Some 9) (Some x.entrance.id) = ap (option_map (λ (t : Entrance). t.id)) x.entered in
    let id : 9 ≡ x.entrance.id = cc ids in
    let of_zero = caller_of_nine x.entry (subst (λ n. slice_get h n ≡ Some x.entry) (sym id) x.granted.stands) in
    let of_one = x.granted.own in
    absurd (omega (arith, of_zero, of_one))
