-- A layout as what its lines say.
use Rattle.std.specs.Prelude.{◌≡◌, ℕ, Bool, true, false, ◌&&◌, ◌==◌, List, [], ◌∷◌, map, Option, Some, None, option_map, if◌then◌else◌}
use Rattle.std.specs.List.{range_with_len}
use Rattle.aim_messages.specs.declared.messages.Turn.{Turn}
use Rattle.aim_messages.specs.declared.messages.Turn.TheVariants.{Left, Straight, Right}
use Rattle.aim_geometry.specs.Sites.{Site}
use Rattle.aim_layout.specs.declared.builders.LayoutFault.{LayoutFault}
use Rattle.aim_layout.specs.declared.policies.PolicyKind.{PolicyKind}
use Rattle.aim_layout.specs.declared.policies.Phase.{Phase}
use Rattle.aim_layout.specs.declared.shapes.Shape.{Shape}
use Rattle.aim_layout.specs.Shapes.{stations_of}
use Rattle.aim_layout.specs.Intersection.{Intersection, Lane, Policy}
use Rattle.aim_layout.specs.Building.{move_fault, with_move, policy_fault, with_policy, phase_fault, with_phase}

-- a line that is added to a layout
pub data Added : Type 0 where
  AddMove : (lane : ℕ) (turn : Turn) (shape : Shape) → Added
  AddPolicy : (kind : PolicyKind) → Added
  AddPhase : (phase : Phase) → Added

-- what the builder makes of one line more
abbrev pub added : Intersection → Added → Intersection
added i (AddMove lane turn s) = with_move i lane turn s
added i (AddPolicy k) = with_policy i k
added i (AddPhase f) = with_phase i f

-- why the builder refuses the line
abbrev pub added_fault : Intersection → Added → Option LayoutFault
added_fault i (AddMove lane turn s) = move_fault i lane turn s
added_fault i (AddPolicy k) = policy_fault i
added_fault i (AddPhase f) = phase_fault i f

-- none of the lines is refused where it stands
abbrev pub AreTaken : Intersection → List Added → Type 0
AreTaken i [] = Unit {0}
AreTaken i (x ∷ xs) = (added_fault i x ≡ None) × AreTaken (added i x) xs

abbrev pub is_turn : Turn → Turn → Bool
is_turn Left Left = true
is_turn Straight Straight = true
is_turn Right Right = true
is_turn Left Straight = false
is_turn Left Right = false
is_turn Straight Left = false
is_turn Straight Right = false
is_turn Right Left = false
is_turn Right Straight = false

-- the shape of the lane's move with that turn
abbrev pub shape_of : List Added → ℕ → Turn → Option Shape
shape_of [] lane turn = None
shape_of (AddMove l t s ∷ xs) lane turn = if l == lane && is_turn t turn then Some s else shape_of xs lane turn
shape_of (AddPolicy k ∷ xs) lane turn = shape_of xs lane turn
shape_of (AddPhase f ∷ xs) lane turn = shape_of xs lane turn

-- the paths of the lane's moves
abbrev pub lane_of : List Added → ℕ → Lane
lane_of xs lane = record {
  left = option_map stations_of (shape_of xs lane Left);
  straight = option_map stations_of (shape_of xs lane Straight);
  right = option_map stations_of (shape_of xs lane Right);
}

-- the phases before the next policy
abbrev pub phases_of : List Added → List Phase
phases_of [] = []
phases_of (AddMove l t s ∷ xs) = phases_of xs
phases_of (AddPolicy k ∷ xs) = []
phases_of (AddPhase f ∷ xs) = f ∷ phases_of xs

-- the policies, each with the phases that follow it
abbrev pub policies_of : List Added → List Policy
policies_of [] = []
policies_of (AddMove l t s ∷ xs) = policies_of xs
policies_of (AddPolicy k ∷ xs) = record { kind = k; phases = phases_of xs } ∷ policies_of xs
policies_of (AddPhase f ∷ xs) = policies_of xs

-- the layout of these lines
abbrev pub layout_of : Site → ℕ → ℕ → List Added → Intersection
layout_of s lanes version xs = record {
  version = version;
  grid = s.grid;
  times = s.times;
  lanes = map (lane_of xs) (range_with_len 0 lanes);
  policies = policies_of xs;
}
