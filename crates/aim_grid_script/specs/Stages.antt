-- What is known of the lines of a script so far, at each stage of it.
use Rattle.std.specs.Prelude.{◌≡◌, ℕ, ◌<◌, ◌≤◌, Bool, true, false, ◌||◌, List, [], ◌∷◌, ◌++◌, length, map, Option, Some, None, Result, Ok, Err, if◌then◌else◌}
use Rattle.aim_io.specs.Lines.{Line as LineOf}
use Rattle.aim_messages.specs.declared.script.Line.{Line}
use Rattle.aim_messages.specs.declared.script.Line.TheVariants as plain
use Rattle.aim_geometry.specs.Bounded.{find_map, is_outside}
use Rattle.aim_layout.specs.Intersection.{Intersection}
use Rattle.aim_drive_script.specs.Kinds.{vehicles_limit}
use Rattle.aim_script_reading.specs.Verdicts.{decides, goes_on, number_after}
use Rattle.aim_script.specs.declared.decisions.Kind.{Kind}
use Rattle.aim_script.specs.declared.decisions.Kind.TheVariants as why
use Rattle.aim_script.specs.declared.headers.Header.{Header}
use Rattle.aim_script.specs.declared.headers.Headed.TheVariants as headed
use Rattle.aim_script.specs.declared.headers.HeaderRefusal.{HeaderRefusal}
use Rattle.aim_script.specs.declared.headers.HeaderRefusal.TheVariants as header_refusal
use Rattle.aim_script.specs.declared.settings.Setting.{Setting}
use Rattle.aim_script.specs.Headers.{HasName, Heeds, Stands as StandsAsHeader}
use Rattle.aim_script.specs.Kinds.{kind_of_fault as header_kind}
use Rattle.aim_script.specs.Said.{layout_of}
use Rattle.aim_script.specs.Versions.{version_number}
use Rattle.aim_script.specs.declared.versions.ScriptVersion.{ScriptVersion}
use Rattle.aim_grid_script.specs.declared.lines.GridLine.{GridLine}
use Rattle.aim_grid_script.specs.declared.lines.GridLine.TheVariants as line
use Rattle.aim_grid_script.specs.Spelled.{IsBare}
use Rattle.aim_grid_script.specs.declared.decisions.GridDecision.TheVariants as decision
use Rattle.aim_grid_script.specs.declared.decisions.GridKind.TheVariants as kind
use Rattle.aim_grid_script.specs.declared.routes.Routes.{Routes}
use Rattle.aim_grid_script.specs.declared.stages.Blocks.{Blocks}
use Rattle.aim_grid_script.specs.declared.stages.GridRefusal.{GridRefusal}
use Rattle.aim_grid_script.specs.declared.stages.GridRefusal.TheVariants as refusal
use Rattle.aim_grid_script.specs.declared.stages.GridStage.{GridStage}
use Rattle.aim_grid_script.specs.declared.stages.GridStage.TheVariants as stage
use Rattle.aim_grid_script.specs.Fits.{AreLegs, AreRoutesOf, AreWithin}
use Rattle.aim_grid_script.specs.Kinds.{next_kind}
use Rattle.aim_grid_script.specs.Order.{part_after, in_blocks, to_begin, to_until, in_legs}
use Rattle.aim_grid_script.specs.Said.{crossings_of, last_of, layouts_of, legs_of, parted, some_block, spans_in, until_in, until_of, vehicles_in, vehicles_of, version_of}
use Rattle.aim_grid_script.specs.Verdicts.{at_end, bad, judge, of_read, past}

-- what holds of a line that was read: a name in it is spelled as one, and a leg's plan is bare
abbrev pub WasRead : GridLine → Type 0
WasRead (line.Crossings n) = Unit {0}
WasRead (line.Leg v c p) = IsBare p
WasRead (line.Plain l) = HasName l

-- nothing is said of vehicles, of the end and of legs
pub record IsQuiet (before : List GridLine) : Type 0 where
  pub vehicles : find_map vehicles_in before ≡ None
  pub until : find_map until_in before ≡ None
  pub legs : legs_of before ≡ []

-- the line of the crossings has come
pub record IsCounted (before : List GridLine) (count : ℕ) : Type 0 where
  pub part : part_after (last_of before) ≡ in_blocks
  pub quiet : IsQuiet before
  pub crossings : crossings_of before ≡ count
  pub parts : parted before ≡ record { earlier = []; block = [] }
  pub some : 0 < count
  pub few : count ≤ 8

-- blocks have come, the last of which may go on
pub record AreBlocks (before : List GridLine) (b : Blocks) : Type 0 where
  pub part : part_after (last_of before) ≡ in_blocks
  pub quiet : IsQuiet before
  pub crossings : crossings_of before ≡ b.count
  pub few : b.count ≤ 8
  pub less : length b.whole.items < b.count
  pub whole : let p = parted before in map layout_of p.earlier ≡ b.whole.items
  pub begun : let p = parted before in some_block p.block ≡ p.block ∷ []
  pub header : let p = parted before in StandsAsHeader p.block b.header

-- the blocks are whole, and the line of the vehicles has come
pub record IsSettled (before : List GridLine) (r : Routes) : Type 0 where
  pub version : version_of before ≡ version_number r.version
  pub layouts : layouts_of before ≡ r.layouts.items
  pub crossings : crossings_of before ≡ length r.layouts.items
  pub some : 0 < length r.layouts.items
  pub few : length r.layouts.items ≤ 8
  pub vehicles : vehicles_of before ≡ r.vehicles
  pub some_vehicles : 0 < r.vehicles
  pub within : vehicles_limit (spans_in r.layouts.items) r.vehicles ≡ None
  pub until : until_of before ≡ r.until
  pub legs : legs_of before ≡ r.legs.items
  pub fit : AreLegs r.vehicles (length r.layouts.items) r.legs.items

-- the stage stands for these lines
abbrev pub Stands : List GridLine → GridStage → Type 0
Stands before stage.Opening = before ≡ []
Stands before (stage.Counted count) = IsCounted before count
Stands before (stage.Blocks b) = AreBlocks before b
Stands before (stage.Begin r) = (part_after (last_of before) ≡ to_begin) × (find_map until_in before ≡ None) × IsSettled before r
Stands before (stage.Until r) = (part_after (last_of before) ≡ to_until) × (find_map until_in before ≡ None) × IsSettled before r
Stands before (stage.Legs r) = (part_after (last_of before) ≡ in_legs) × (is_outside r.until 65536 ≡ false) × IsSettled before r
Stands before (stage.Over r) = (last_of before ≡ Some (line.Plain plain.End)) × (is_outside r.until 65536 ≡ false) × IsSettled before r

-- what a further line comes to
abbrev pub Takes : List GridLine → GridLine → Result GridStage GridRefusal → Type 0
Takes before l (Ok next) = (of_read before (Ok l) ≡ goes_on l) × Stands (before ++ l ∷ []) next
Takes before l (Err (refusal.Bad k)) = of_read before (Ok l) ≡ decides (bad before k)
Takes before l (Err (refusal.Limit which)) = of_read before (Ok l) ≡ decides (past which)
Takes before l (Err refusal.NoMemory) = Unit {0}

-- what a further line's bytes come to
abbrev pub Judged : List GridLine → List ℕ → Result GridStage GridRefusal → Type 0
Judged before bytes (Ok next) = (l : GridLine) × (judge before (LineOf bytes) ≡ goes_on l) × Stands (before ++ l ∷ []) next
Judged before bytes (Err (refusal.Bad k)) = judge before (LineOf bytes) ≡ decides (bad before k)
Judged before bytes (Err (refusal.Limit which)) = judge before (LineOf bytes) ≡ decides (past which)
Judged before bytes (Err refusal.NoMemory) = Unit {0}

-- what the end of the input comes to
abbrev pub Ends : List GridLine → Option Routes → Type 0
Ends before (Some r) = (at_end before ≡ decision.Whole) × AreRoutesOf before r × AreWithin r
Ends before None = at_end before ≡ decision.Bad (number_after before) (kind.Plain why.End)

-- an `aim` line begins a block, as it begins a script
abbrev pub Begins : ℕ → Result Header HeaderRefusal → Type 0
Begins n (Ok h) = (header_kind [] (plain.Version n) ≡ None) × StandsAsHeader (plain.Version n ∷ []) h
Begins n (Err (header_refusal.Bad k)) = header_kind [] (plain.Version n) ≡ Some k
Begins n (Err header_refusal.NoMemory) = Unit {0}

-- an `aim` line ends the block before it
abbrev pub EndsBlock : List Line → ℕ → Result Intersection HeaderRefusal → Type 0
EndsBlock block n (Ok i) = (next_kind block n ≡ None) × (layout_of block ≡ i)
EndsBlock block n (Err (header_refusal.Bad k)) = next_kind block n ≡ Some k
EndsBlock block n (Err header_refusal.NoMemory) = Unit {0}

-- the line of so many vehicles ends the last block
abbrev pub Sets : List Line → ℕ → Result Setting HeaderRefusal → Type 0
Sets block n (Ok s) = Heeds block (plain.Vehicles n) (Ok (headed.Whole s))
Sets block n (Err refused) = Heeds block (plain.Vehicles n) (Err refused)

-- why a line of a block isn't taken
abbrev pub refusal_of : HeaderRefusal → GridRefusal
refusal_of (header_refusal.Bad k) = refusal.Bad (kind.Plain k)
refusal_of header_refusal.NoMemory = refusal.NoMemory

-- what so many vehicles come to, where the blocks describe these layouts
abbrev pub Settles : ScriptVersion → List Intersection → ℕ → Result GridStage GridRefusal → Type 0
Settles version layouts n (Ok (stage.Begin r)) =
    (vehicles_limit (spans_in layouts) n ≡ None) × (r.version ≡ version) × (r.layouts.items ≡ layouts) × (r.vehicles ≡ n) × (r.until ≡ 0) × (r.legs.items ≡ [])
Settles version layouts n (Ok s) = ⊥
Settles version layouts n (Err (refusal.Limit which)) = vehicles_limit (spans_in layouts) n ≡ Some which
Settles version layouts n (Err (refusal.Bad k)) = ⊥
Settles version layouts n (Err refusal.NoMemory) = Unit {0}

abbrev pub is_order : Kind → Bool
is_order why.Order = true
is_order _ = false

-- why an `aim` line of the same version, or of another, doesn't end a block
abbrev pub ending_of : Bool → HeaderRefusal → HeaderRefusal
ending_of same (header_refusal.Bad k) = if same || is_order k then header_refusal.Bad k else header_refusal.Bad why.Version
ending_of same header_refusal.NoMemory = header_refusal.NoMemory
