-- What is known of a tile on which a driver is: where it lies, and what was asked for in the Confirm that has it.
use Rattle.std.proofs.Common.{◌≡◌, ℕ, ◌+◌, ◌<◌, true, ◌&&◌, List, Some, arith, sym, ap, ◌∙◌, slice_get}
use Rattle.std.specs.Prelude.{◌==◌}
use Rattle.aim_messages.specs.declared.entries.Entry.{Entry}
use Rattle.aim_geometry.specs.Cells.{Cell}
use Rattle.aim_geometry.proofs.BoundedLemmas.{some_below_found}
use Rattle.aim_layout.specs.Intersection.{Intersection}
use Rattle.aim_rules.specs.Footprint.{crossing_steps, in_footprint}
use Rattle.aim_rules.proofs.TestLemmas.{and_left, and_right, same_number}
use Rattle.aim_driver.specs.declared.logs.Entrance.{Entrance}
use Rattle.aim_driver.specs.declared.logs.LogItem.{LogItem}
use Rattle.aim_safety.specs.Occupied.{Passage, grant_of, passage, is_occupied}
use Rattle.aim_safety.specs.Reserved.{IsReserved}
use Rattle.aim_safety.specs.Tiles.{EntersBy}
use Rattle.aim_safety.proofs.FootprintLemmas.{few_steps}
use Rattle.aim_safety.proofs.MeetLemmas.{occupied_passage}
use Rattle.aim_safety.proofs.OccupiedLemmas.{passage_at, grant_is, inside_grid}
use Rattle.aim_safety.proofs.PassageLemmas.{passage_by, passage_good, passage_tried}
use Rattle.aim_safety.proofs.PlaceLemmas.{some_same}

pub record IsWithin (i : Intersection) (most : ℕ) (c : Cell) : Type 0 where
  pub row : c.row < i.grid.n
  pub col : c.col < i.grid.n
  pub step : c.step < most + 2048

-- a tile on which a driver is lies on the grid, and its step in the crossing
pub occupied_within : (most : ℕ) (i : Intersection) (h : List Entry) (log : List LogItem) (c : Cell) → EntersBy most log → is_occupied i h log c ≡ true → IsWithin i most c
occupied_within most i h log c enters on =
    let x = occupied_passage i h log c on in
    let f = some_below_found (crossing_steps i x.0.grant.params x.0.grant.fast) (λ k. c.step == x.0.step + k && in_footprint i x.0.grant.params x.0.grant.fast 0 k c.row c.col) x.2 in
    let same = same_number c.step (x.0.step + f.0) (and_left (c.step == x.0.step + f.0) (in_footprint i x.0.grant.params x.0.grant.fast 0 f.0 c.row c.col) f.2) in
    let b = inside_grid i x.0.grant.params x.0.grant.fast 0 f.0 c.row c.col (and_right (c.step == x.0.step + f.0) (in_footprint i x.0.grant.params x.0.grant.fast 0 f.0 c.row c.col) f.2) in
    let below = f.1 in
    let few = few_steps i x.0.grant.params x.0.grant.fast (passage_good i h log x.0 x.1) (passage_tried i h log x.0 x.1) in
    let by = passage_by most i h log x.0 enters x.1 in
    record { row = b.0; col = b.1; step = omega arith }

-- the params of the crossing are those that were asked for there
pub reserved_params : (i : Intersection) (h : List Entry) (v : ℕ) (log : List LogItem) (c : Cell) (x : Passage) (r : IsReserved i h v log c) → passage i h log ≡ Some x → x.grant.params ≡ r.params
reserved_params i h v log c x r at =
    let t = passage_at i h log x at in
    let same : t.0 ≡ r.entrance = some_same t.0 r.entrance (sym t.1 ∙ r.entered) in
    let there : slice_get h t.0.id ≡ Some r.entry = ap (λ (e : Entrance). slice_get h e.id) same ∙ r.granted.stands in
    let here : grant_of i (Some r.entry) ≡ Some x.grant = ap (grant_of i) (sym there) ∙ t.3 in
    ap (λ g. g.params) (grant_is i r.entry r.params x.grant r.asked here)
