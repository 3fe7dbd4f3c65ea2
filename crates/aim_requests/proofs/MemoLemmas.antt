-- A request that is kept is prepared for each layout with the ground and the path of its own.
use Rattle.std.proofs.Common.{◌≡◌, ℕ, ◌+◌, ◌<◌, ◌≤◌, ◌&&◌, nat_le, Bool, true, false, List, [], length, Option, Some, None, is_none, arith, refl, sym, ap, ◌∙◌, subst, if◌then◌else◌}
use Rattle.std.specs.Prelude.{option_and_then, slice_get, unwrap_or}
use Rattle.std.proofs.lemmas.Option.{slice_get_within}
use Rattle.aim_messages.specs.declared.messages.Params.{Params}
use Rattle.aim_messages.specs.declared.messages.Turn.{Turn}
use Rattle.aim_geometry.specs.declared.ground.Grid.{Grid}
use Rattle.aim_geometry.specs.declared.ground.Times.{Times}
use Rattle.aim_geometry.specs.declared.stations.Station.{Station}
use Rattle.aim_sheets.specs.declared.spans.Span.{Span}
use Rattle.aim_layout.specs.Intersection.{Intersection, Lane, path, path_of, stations}
use Rattle.aim_rules.specs.Bad.{bad, span_count}
use Rattle.aim_rules.specs.Footprint.{crossing_steps}
use Rattle.aim_rules.specs.Trials.{has_windows, is_fast_made, judged}
use Rattle.aim_rules.proofs.GoodLemmas.{good_params, no_field}
use Rattle.aim_requests.specs.Memos.{IsKept, IsOn}
use Rattle.aim_requests.specs.Shapes.{IsAnew}
use Rattle.aim_requests.specs.Requests.{IsPreparedFor, IsStepsOf, IsTrialOf, Request, prepared_params}
use Rattle.aim_requests.proofs.GroundLemmas.{cells_same, count_same, steps_same}
use Rattle.aim_requests.proofs.ShapeLemmas.{good_asked, whole_asked}

-- a lane that has a path is there
lane_within : (lanes : List Lane) (lane : ℕ) (turn : Turn) (s : List Station) → option_and_then (λ l. path_of l turn) (slice_get lanes lane) ≡ Some s → lane < length lanes
lane_within lanes lane turn s h = go (slice_get lanes lane) refl h
  where
    go : (o : Option Lane) → slice_get lanes lane ≡ o → option_and_then (λ l. path_of l turn) o ≡ Some s → lane < length lanes
    go None e h = absurd (cc)
    go (Some l) e h = slice_get_within lanes lane l e

there : {X : Type 0} (o : Option X) (x : X) → o ≡ Some x → is_none o ≡ false
there o x h = ap is_none h

carried : (a b c d : ℕ) → a ≤ c → a ≡ b → c ≡ d → b ≤ d
carried a b c d l e f = omega arith

module _ (j : Intersection) (version : ℕ) (grid : Grid) (times : Times) (s : List Station) (r : Request) (p : Params) (k : IsOn version grid times s r p)
    (asked : prepared_params r ≡ Some p) (same_version : version ≡ j.version) (same_grid : grid ≡ j.grid) (same_times : times ≡ j.times) (on : path j p.lane p.turn ≡ Some s) where
  i : Intersection
  i = k.layout

  prepared : IsPreparedFor i r
  unfolding i
  prepared = k.prepared

  grids : i.grid ≡ j.grid
  unfolding i
  grids = k.grid_is ∙ same_grid

  clocks : i.times ≡ j.times
  unfolding i
  clocks = k.times_is ∙ same_times

  paths : stations i p.lane p.turn ≡ stations j p.lane p.turn
  unfolding i
  paths = k.path_is ∙ sym (ap (λ o. unwrap_or o []) on)

  windows : has_windows i ≡ has_windows j
  unfolding i
  windows = ap (nat_le 4) (k.version_is ∙ same_version)

  trials : (judged i p).fast ≡ (judged j p).fast
  trials = ap (λ b. b && is_fast_made p) windows

  good_there : bad j p ≡ None
  good_there =
      let g = good_params i p (good_asked i r p prepared asked) in
      let fits : i.grid.spans ≡ j.grid.spans = ap (λ (g : Grid). g.spans) grids in
      no_field j p (record {
        lane = lane_within j.lanes p.lane p.turn s on;
        turn = there (path j p.lane p.turn) s on;
        arrive = g.arrive;
        window = λ has. (let b = g.window (windows ∙ has) in (b.0, b.1, carried _ _ _ _ b.2 refl (ap (λ (t : Times). p.arrive + t.window) clocks)));
        greatest = g.greatest;
        speed = g.speed;
        accel = g.accel;
        length = g.length;
        width = g.width;
        steps = carried _ _ 2048 2048 g.steps (steps_same i j p p grids clocks paths refl (judged i p).fast ∙ ap (crossing_steps j p) trials) refl;
        judged = carried _ _ _ _ g.judged (count_same i j p p grids clocks paths refl (judged i p).fast ∙ ap (span_count j p) trials) fits;
        fast = λ none made. carried _ _ _ _ (g.fast (windows ∙ none) made) (count_same i j p p grids clocks paths refl true) fits;
      })

  trial_there : (fast : Bool) (spans : List Span) → IsTrialOf i p fast spans → IsTrialOf j p fast spans
  trial_there fast spans is = record {
    cells = λ c. is.cells c ∙ cells_same i j p p grids clocks paths refl fast c;
    count = is.count ∙ count_same i j p p grids clocks paths refl fast;
  }

  one : (q : Params) → prepared_params r ≡ Some q → p ≡ q
  one q a = cc

  judged_as : (q : Params) → prepared_params r ≡ Some q → (judged i p).fast ≡ (judged j q).fast
  judged_as q a = trials ∙ ap (λ x. (judged j x).fast) (one q a)

  prepared_there : IsPreparedFor j r
  prepared_there =
      let spans : i.grid.spans ≡ j.grid.spans = ap (λ (g : Grid). g.spans) grids in
      let whole = whole_asked i r p prepared asked in
      record {
        field = whole.0 ∙ sym (ap (option_and_then (bad j)) whole.1 ∙ good_there);
        first_room = prepared.first_room ∙ spans;
        second_room = prepared.second_room ∙ spans;
        steady = λ q a alone. subst (λ x. IsTrialOf j x false r.second.spans) (one q a) (trial_there false r.second.spans (prepared.steady p asked (judged_as q a ∙ alone)));
        fast = λ q a made. subst (λ x. IsTrialOf j x true r.first.spans) (one q a) (trial_there true r.first.spans (prepared.fast p asked (ap is_fast_made (one q a) ∙ made)));
        steps = λ q a. subst (λ x. IsStepsOf j x r.steps) (one q a) (let was = prepared.steps p asked in record {
          fast = was.fast ∙ ap (λ n. if is_fast_made p then n else 0) (steps_same i j p p grids clocks paths refl true);
          steady = was.steady ∙ ap (λ b. if b then 0 else crossing_steps i p false) trials ∙ ap (λ n. if (judged j p).fast then 0 else n) (steps_same i j p p grids clocks paths refl false);
        });
        unmade = λ q a made. prepared.unmade p asked (ap is_fast_made (one q a) ∙ made);
        untried = λ q a fast. prepared.untried p asked (judged_as q a ∙ fast);
        empty = λ none. absurd (cc (none, asked));
      }

-- So it is for each layout with that ground over which params ask for its crossing anew, on a path with those stations.
pub kept_there : (j : Intersection) (version : ℕ) (grid : Grid) (times : Times) (s on : List Station) (r : Request) (from : ℕ) (q : Params) → IsKept version grid times s r → IsAnew j r from q →
    version ≡ j.version → grid ≡ j.grid → times ≡ j.times → path j q.lane q.turn ≡ Some on → s ≡ on → IsPreparedFor j r
kept_there j version grid times s on r from q kept anew same_version same_grid same_times found same =
    let known = anew.known in
    prepared_there j version grid times s r known.0 (kept known.0 known.1) known.1 same_version same_grid same_times (sym (ap (λ (p : Params). path j p.lane p.turn) known.3) ∙ found ∙ ap (λ x. Some x) (sym same))
