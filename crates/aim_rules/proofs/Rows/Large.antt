-- One path of a realistic layout.
use Rattle.std.proofs.Common.{◌≡◌, [], ◌∷◌, Some, None, refl, true, false}
use Rattle.aim_messages.specs.declared.messages.Params.{Params}
use Rattle.aim_messages.specs.declared.messages.Turn.TheVariants.{Left}
use Rattle.aim_layout.specs.declared.policies.PolicyKind.TheVariants.{Fcfs}
use Rattle.aim_geometry.specs.Stations.{curve}
use Rattle.aim_layout.specs.Intersection.{Intersection}
use Rattle.aim_rules.specs.Footprint.{crossing_steps}
use Rattle.aim_rules.specs.Cells.{in_cells}

abbrev large : Intersection
large = record {
  version = 3;
  grid = record { side = 24000; n = 48; spacing = 100; fixed = 250; half = 1200; spans = 8192 };
  times = record { horizon = 3000; longest = 100; clearance = 100; early = 2; late = 2; edge = 5; window = 0 };
  lanes = record { left = Some (curve 0 10500 13500 10500 13500 24000 280); straight = None; right = None } ∷ [];
  policies = record { kind = Fcfs; phases = [] } ∷ [];
}

abbrev truck : Params
truck = record { lane = 0; turn = Left; arrive = 100; latest = 100; speed = 200; max_speed = 300; accel = 2; length = 4500; width = 1900; emergency = false }

pub steps_fast : crossing_steps large truck true ≡ 117
steps_fast = refl

pub steps_steady : crossing_steps large truck false ≡ 163
steps_steady = refl

pub needs_a_cell : in_cells large truck false (record { row = 21; col = 10; step = 130 }) ≡ true
needs_a_cell = refl
