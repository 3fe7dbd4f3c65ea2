-- What holds of the journal of a drive and of the logs of its drivers, whatever the threads do and whatever the links lose, repeat or delay.
use Rattle.std.specs.Prelude.{◌≡◌, ◌≢◌, ℕ, ◌<◌, ◌≤◌, true, false, List, [], map, Some, None, slice_get}
use Rattle.aim_messages.specs.declared.entries.Entry.{Entry}
use Rattle.aim_messages.specs.declared.entries.TheConstants.{OPERATOR}
use Rattle.aim_geometry.specs.Cells.{Cell}
use Rattle.aim_layout.specs.Intersection.{Intersection}
use Rattle.aim_rules.specs.Claims as claims
use Rattle.aim_rules.specs.Legal.{IsLegal}
use Rattle.aim_driver.specs.declared.logs.Entrance.{Entrance}
use Rattle.aim_driver.specs.declared.logs.LogItem.{LogItem}
use Rattle.aim_driver.specs.Crossings.{first_entrance}
use Rattle.aim_driver.specs.Fits.{entries_of, replies_of, AreCallsOf}
use Rattle.aim_driver.specs.Follows.{Call, follows}
use Rattle.aim_driver.specs.declared.orders.Ordered.{Ordered}
use Rattle.aim_drive_script.specs.Said.{Drive}
use Rattle.aim_safety.specs.Occupied.{Passage, passage, is_on, is_occupied}
use Rattle.aim_safety.specs.Reserved.{Crosses, IsReserved}
use Rattle.aim_agents.specs.Places.{At}
use Rattle.aim_agents.specs.Runs.{InRun}
use Rattle.aim_agents.specs.Orders.{CarryOrders}

-- a vehicle, and its driver's log
abbrev pub VehicleLog : Type 0
VehicleLog = ℕ × List LogItem

-- The log, and the moments and messages of the vehicle's entries, are what the drive's driver follows with the fates of its links and the replies of
-- these entries.
pub record IsFollowed (until : ℕ) (h : List Entry) (d : Drive) (log : List LogItem) : Type 0 where
  pub calls : List Call
  pub course : follows d.plan d.up d.down until (replies_of h d.vehicle) ≡ (log, calls)
  pub carried : AreCallsOf calls h d.vehicle

pub record Headline (i : Intersection) (vehicles until size : ℕ) (drives : List Drive) (orders : List Ordered) (h : List Entry) (logs : List VehicleLog) : Type 0 where
  -- one legal history
  pub legal : IsLegal i vehicles h
  -- each driver's calls once, in its order, with the replies of its entries
  pub whose : map (λ (x : VehicleLog). x.0) logs ≡ map (λ d. d.vehicle) drives
  pub followed : (k : ℕ) (d : Drive) (x : VehicleLog) → slice_get drives k ≡ Some d → slice_get logs k ≡ Some x → IsFollowed until h d x.1
  pub others : (n : ℕ) → n ≢ OPERATOR → ((k : ℕ) (d : Drive) → slice_get drives k ≡ Some d → d.vehicle ≢ n) → entries_of h n ≡ []
  pub given : CarryOrders (entries_of h OPERATOR) orders
  -- after all that it had seen: moments don't fall, the orders of a moment come first, and then the calls of a run in the order of the drives
  pub moments : (p q : ℕ) (e f : Entry) → At h p e → At h q f → p < q → e.moment ≤ f.moment
  pub orders_first : (p q : ℕ) (e f : Entry) → At h p e → At h q f → p < q → e.moment ≡ f.moment → f.caller ≡ OPERATOR → e.caller ≡ OPERATOR
  pub runs : (j k : ℕ) (c d : Drive) → InRun size j k → slice_get drives j ≡ Some c → slice_get drives k ≡ Some d → (p q : ℕ) (e f : Entry) → At h p e → At h q f
      → e.caller ≡ c.vehicle → f.caller ≡ d.vehicle → e.moment ≡ f.moment → p < q
  -- a driver that entered has a crossing, on a Confirm of its own vehicle
  pub crosses : (k : ℕ) (x : VehicleLog) (t : Entrance) → slice_get logs k ≡ Some x → first_entrance x.1 ≡ Some t → Crosses i h x.0 x.1 t
  -- each tile on which it is was reserved for it
  pub reserved : (k : ℕ) (x : VehicleLog) (c : Cell) → slice_get logs k ≡ Some x → is_occupied i h x.1 c ≡ true → IsReserved i h x.0 x.1 c
  -- no two drivers are on one tile in one step
  pub apart : (j k : ℕ) (x y : VehicleLog) → slice_get logs j ≡ Some x → slice_get logs k ≡ Some y → x.0 ≢ y.0 → (c : Cell) → is_occupied i h x.1 c ≡ true → is_occupied i h y.1 c ≡ false
  -- nor is a driver on a tile that the green of a lane other than its own claims then
  pub clear : (k : ℕ) (x : VehicleLog) (t : Passage) (c : Cell) → slice_get logs k ≡ Some x → passage i h x.1 ≡ Some t → is_on i t c ≡ true → claims.green i h c t.grant.params.lane ≡ None
