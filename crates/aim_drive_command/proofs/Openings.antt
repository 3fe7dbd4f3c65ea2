-- The lines of the layout and that of the vehicles stand where they stand.
use Rattle.std.proofs.Common.{◌≡◌, ℕ, ◌<◌, ◌≤◌, ◌*◌, false, ◌==◌, List, [], ◌∷◌, ◌++◌, fold, filter_map, Some, None, Ok, refl, sym, ◌∙◌, ap, subst, arith, append_assoc, append-nil, nat_lt}
use Rattle.std.proofs.lemmas.Bool.Decides.{nat_tests}
use Rattle.aim_messages.specs.declared.script.Line.{Line}
use Rattle.aim_messages.specs.declared.script.Line.TheVariants as line
use Rattle.aim_messages.specs.Lines.{name_word}
use Rattle.aim_layout.specs.declared.policies.PolicyKind.TheVariants as policy
use Rattle.aim_layout.specs.Added.{added, AreTaken}
use Rattle.aim_layout.specs.Building.{bare, with_move, with_policy, policy_fault, finish_fault}
use Rattle.aim_layout.specs.Intersection.{Intersection}
use Rattle.aim_script.specs.declared.headers.Header.{Header}
use Rattle.aim_script.specs.declared.headers.Headed.TheVariants as headed
use Rattle.aim_script.specs.declared.headers.Place.{Place}
use Rattle.aim_script.specs.declared.headers.Place.TheVariants as place
use Rattle.aim_script.specs.declared.settings.Setting.{Setting}
use Rattle.aim_script.specs.declared.versions.ScriptVersion.TheVariants as version
use Rattle.aim_script.specs.Headers.{Goes, Heeds, SaysNoMore, Stands, StandsAt}
use Rattle.aim_script.specs.Said.{added_in, grid_of, layout_of, shape_of, times_of, version_after}
use Rattle.aim_script.proofs.AppendLemmas.{layout_built, version_same}
use Rattle.aim_script.proofs.HeaderLemmas.{grid_taken, times_taken, lanes_taken, move_taken, first_policy, vehicles_line}
use Rattle.aim_drive_script.specs.Drafts.{IsOpened}
use Rattle.aim_drive_script.specs.Kinds.{vehicles_limit}
use Rattle.aim_drive_script.specs.Scripts.{IsDrive}
use Rattle.aim_drive_script.proofs.Drafting.{drive_more}
use Rattle.aim_drive_script.proofs.Heading.{same_kind, no_limit, limit_is, opens}
use Rattle.aim_drive_command.specs.Arms.{ground_numbers, layout_lines, moves, plain, time_numbers}
use Rattle.aim_drive_command.specs.Laid.{laid, site, ways}
use Rattle.aim_drive_command.proofs.Ways.{all_taken, laid_all, laid_policies, laid_grid}

-- lines without a fault, behind which the header stands at that place
record IsHeaded (before : List Line) (p : Place) : Type 0 where
  drive : IsDrive before
  version : version_after before ≡ 1
  at : StandsAt before p

heeded : (before : List Line) (l : Line) (p q : Place) → IsHeaded before p → SaysNoMore l → Goes before l (Ok q) → IsHeaded (before ++ l ∷ []) q
heeded before l p q h silent goes =
    let header : Header = record { version = version.One; place = p } in
    let st : Stands before header = record { version = h.version; place = h.at } in record {
      drive = drive_more before l h.drive (same_kind before header l st ∙ goes.0) (no_limit before header l st goes.0 silent.vehicles);
      version = version_same before l silent.version ∙ h.version;
      at = goes.1;
    }

none_some : {A : Type 0} (x : A) → None ≡ Some x → ⊥
none_some x e = cc

no_lines : IsDrive []
no_lines = record { no_fault = λ k l e. absurd (none_some l e); no_limit = λ k l e. absurd (none_some l e) }

of_version : IsHeaded (line.Version 1 ∷ []) place.Grid
of_version = record {
  drive = drive_more [] (line.Version 1) no_lines refl refl;
  version = refl;
  at = record { part = refl; over = refl; says = record { said = refl; named = refl; no_vehicles = refl; no_calls = λ given. refl } };
}

of_grid : IsHeaded (line.Version 1 ∷ line.Grid ground_numbers ∷ []) (place.Times (grid_of ground_numbers))
of_grid =
    let before = line.Version 1 ∷ [] in
    heeded before (line.Grid ground_numbers) place.Grid (place.Times (grid_of ground_numbers)) of_version (record { version = refl; vehicles = refl })
    (grid_taken before place.Grid ground_numbers (grid_of ground_numbers) refl refl refl of_version.at)

of_times : IsHeaded (line.Version 1 ∷ line.Grid ground_numbers ∷ line.Times time_numbers ∷ []) (place.Lanes site)
of_times =
    let before = line.Version 1 ∷ line.Grid ground_numbers ∷ [] in
    let p = place.Times (grid_of ground_numbers) in
    heeded before (line.Times time_numbers) p (place.Lanes site) of_grid (record { version = refl; vehicles = refl })
    (times_taken before p (grid_of ground_numbers) time_numbers (times_of time_numbers) site refl refl refl refl of_grid.at)

of_lanes : IsHeaded (line.Version 1 ∷ line.Grid ground_numbers ∷ line.Times time_numbers ∷ line.Lanes 12 ∷ []) (place.Moves (bare site 12 1))
of_lanes =
    let before = line.Version 1 ∷ line.Grid ground_numbers ∷ line.Times time_numbers ∷ [] in
    heeded before (line.Lanes 12) (place.Lanes site) (place.Moves (bare site 12 1)) of_times (record { version = refl; vehicles = refl })
    (lanes_taken before (place.Lanes site) site 12 1 (bare site 12 1) refl refl refl of_times.version of_times.at)

-- lines of moves alone
abbrev AreMoves : List Line → Type 0
AreMoves [] = Unit {0}
AreMoves (line.Move lane turn s ∷ ls) = AreMoves ls
AreMoves (l ∷ ls) = ⊥

are_moves : AreMoves moves
unfolding moves
are_moves = tt

headed_moves : (ls before : List Line) (i : Intersection) → IsHeaded before (place.Moves i) → AreMoves ls → AreTaken i (filter_map added_in ls) → IsHeaded (before ++ ls) (place.Moves (fold added i (filter_map added_in ls)))
headed_moves [] before i h are taken = subst (λ ls. IsHeaded ls (place.Moves i)) (sym (append-nil before)) h
headed_moves (line.Move lane turn s ∷ ls) before i h are taken =
    let l = line.Move lane turn s in
    let next = with_move i lane turn (shape_of s) in
    let goes = move_taken before (place.Moves i) i next lane turn s refl (sym taken.0) refl h.at in
    let one = heeded before l (place.Moves i) (place.Moves next) h (record { version = refl; vehicles = refl }) goes in
    subst (λ all. IsHeaded all (place.Moves (fold added next (filter_map added_in ls)))) (append_assoc before (l ∷ []) ls) (headed_moves ls (before ++ l ∷ []) next one are taken.1)
headed_moves (l ∷ ls) before i h are taken = absurd are

before_policy : List Line
before_policy = line.Version 1 ∷ line.Grid ground_numbers ∷ line.Times time_numbers ∷ line.Lanes 12 ∷ moves

of_moves : IsHeaded before_policy (place.Moves (laid 12))
unfolding before_policy ways
of_moves =
    subst (λ (i : Intersection). IsHeaded (line.Version 1 ∷ line.Grid ground_numbers ∷ line.Times time_numbers ∷ line.Lanes 12 ∷ moves) (place.Moves i)) (sym laid_all)
    (headed_moves moves (line.Version 1 ∷ line.Grid ground_numbers ∷ line.Times time_numbers ∷ line.Lanes 12 ∷ []) (bare site 12 1) of_lanes are_moves all_taken)

first_free : (i : Intersection) → i.policies ≡ [] → policy_fault i ≡ None
first_free i none = rw none refl

one_whole : (i : Intersection) → i.policies ≡ [] → finish_fault (with_policy i policy.Fcfs) ≡ None
one_whole i none = rw none refl

-- the layout is built
pub built_free : policy_fault (laid 12) ≡ None
built_free = first_free (laid 12) laid_policies

pub built_whole : finish_fault (with_policy (laid 12) policy.Fcfs) ≡ None
built_whole = one_whole (laid 12) laid_policies

of_policy : IsHeaded layout_lines (place.Policies (with_policy (laid 12) policy.Fcfs) (name_word plain ∷ []))
unfolding before_policy layout_lines
of_policy =
    let to = place.Policies (with_policy (laid 12) policy.Fcfs) (name_word plain ∷ []) in
    heeded before_policy (line.Policy plain 0) (place.Moves (laid 12)) to of_moves (record { version = refl; vehicles = refl })
    (first_policy before_policy (place.Moves (laid 12)) (laid 12) plain 0 (Ok to) refl (refl, built_free, refl) of_moves.at)

pub layout_built_so : layout_of layout_lines ≡ with_policy (laid 12) policy.Fcfs
layout_built_so = layout_built layout_lines (with_policy (laid 12) policy.Fcfs) (name_word plain ∷ []) of_policy.at.says

-- what the lines say up to that of the vehicles
abbrev pub setting : ℕ → Setting
setting count = record { version = version.One; layout = with_policy (laid 12) policy.Fcfs; names = name_word plain ∷ []; vehicles = count }

few_enough : (spans n : ℕ) → spans ≡ 8192 → n ≤ 256 → vehicles_limit spans n ≡ None
few_enough spans n is few =
    let a : nat_lt 256 n ≡ false = grind (arith, nat_tests) in
    let b : nat_lt 65536 n ≡ false = grind (arith, nat_tests) in
    let c : nat_lt 16777216 (n * 8192) ≡ false = grind (arith, nat_tests) in
    rw (is, a, b, c) refl

-- lines without a fault, behind that of the vehicles
pub record IsWhole (before : List Line) (s : Setting) : Type 0 where
  pub drive : IsDrive before
  pub opened : IsOpened before s

pub of_vehicles : (count : ℕ) → 0 < count → count ≤ 256 → IsWhole (layout_lines ++ line.Vehicles count ∷ []) (setting count)
of_vehicles count some few =
    let p = place.Policies (with_policy (laid 12) policy.Fcfs) (name_word plain ∷ []) in
    let l = line.Vehicles count in
    let s = setting count in
    let there : (count == 0) ≡ false = grind (arith, nat_tests) in
    let heeds : Heeds layout_lines l (Ok (headed.Whole s)) = vehicles_line layout_lines p version.One (with_policy (laid 12) policy.Fcfs) (name_word plain ∷ []) count (Ok (headed.Whole s)) refl (built_whole, there, refl) of_policy.version of_policy.at in
    let header : Header = record { version = version.One; place = p } in
    let st : Stands layout_lines header = record { version = of_policy.version; place = of_policy.at } in
    let within = few_enough s.layout.grid.spans count (ap (λ g. g.spans) laid_grid) few in record {
      drive = drive_more layout_lines l of_policy.drive (same_kind layout_lines header l st ∙ heeds.0) (limit_is layout_lines l s refl heeds.2 ∙ within);
      opened = opens layout_lines l s refl heeds.2 within;
    }
