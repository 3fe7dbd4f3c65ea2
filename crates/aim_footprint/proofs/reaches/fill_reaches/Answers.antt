use Rattle.std.proofs.Common.{◌≡◌, ◌≤◌, ℕ, ◌+◌, ◌-◌, ◌*◌, arith, below_more, le-ltb, refl, sym, length, length-set, rules}
use Rattle.aim_layout.specs.Intersection.{Intersection, stations}
use Rattle.aim_messages.specs.declared.messages.Params.{Params}
use Rattle.aim_rules.specs.Motion.{front}
use Rattle.aim_rules.specs.Footprint.{path_length}
use Rattle.aim_rules.proofs.MotionLemmas.{front_more, front_zero}
use Rattle.aim_footprint.specs.Reaches.{reach_of}
use Rattle.aim_footprint.proofs.FieldLemmas.{steps_are, steps_most}
use Rattle.aim_footprint.proofs.Reached.{reach_set, reaches_are}
use Rattle.aim_footprint.proofs.reaches.fill_reaches.Goals as goal
use Rattle.aim_footprint.proofs.reaches.fill_reaches.Goals.{then-fast, else-fast}

length_is : (i : Intersection) (p : Params) (m spacing : ℕ) → m ≡ length (stations i p.lane p.turn) - 1 → spacing ≡ i.grid.spacing → m * spacing + p.length ≡ path_length i p + p.length
length_is i p m spacing a b = rw (a, b) refl

pub steps-preserved : goal.steps-preserved
steps-preserved c =
    let i = c.steps.invariant in
    let p = c.args.params.now in
    let k = c.steps.k in
    let most = c.requires.moving.most in
    let spacing : c.grid-spacing.result.spacing ≡ c.args.layout.now.grid.spacing = rw (c.grid-spacing.ensures.grid, c.ground.ensures.grid) refl in
    let way : c.steps.at + c.steps.speed ≡ front p c.args.fast (k + 1) = cc (front_more p c.args.fast k most) in
    let short : front p c.args.fast k ≤ c.args.m * c.grid-spacing.result.spacing + p.length = omega arith in
    record {
      way = way;
      speed = omega arith;
      gains = i.gains;
      below = omega arith;
      few = omega arith;
      none = below_more _ _ i.none (le-ltb _ _ short);
      exact = λ j l. reach_set c.steps.reaches k j c.reach_between.result.low c.reach_between.result.high (reach_of c.args.layout.now p c.args.fast j) (omega arith) l (λ b. i.exact j b)
          (λ e. let at : c.steps.at ≡ front p c.args.fast k = i.way in rw (e, ← at, ← spacing) c.reach_between.ensures.low)
          (λ e. rw (e, ← way, ← spacing, ← c.requires.parts) c.reach_between.ensures.high);
      len = simp length-set i.len;
    }

pub returns-else-k-lt2048-clause-count : goal.returns-else-k-lt2048-clause-count
returns-else-k-lt2048-clause-count c =
    let spacing : c.grid-spacing.result.spacing ≡ c.args.layout.now.grid.spacing = rw (c.grid-spacing.ensures.grid, c.ground.ensures.grid) refl in
    let m = c.requires.moving in
    steps_most c.args.layout.now c.args.params.now c.args.fast c.steps.k 2048 (omega arith) c.requires.steps m.speed m.most c.steps.invariant.few
    (rw (length_is c.args.layout.now c.args.params.now c.args.m c.grid-spacing.result.spacing c.requires.parts spacing) at c.steps.invariant.none)

pub returns-after-steps-clause-count : goal.returns-after-steps-clause-count
returns-after-steps-clause-count c =
    let spacing : c.grid-spacing.result.spacing ≡ c.args.layout.now.grid.spacing = rw (c.grid-spacing.ensures.grid, c.ground.ensures.grid) refl in
    let m = c.requires.moving in
    let e = length_is c.args.layout.now c.args.params.now c.args.m c.grid-spacing.result.spacing c.requires.parts spacing in
    steps_are c.args.layout.now c.args.params.now c.args.fast c.steps.k m.speed m.most (rw e at c.steps.invariant.none) (let w = c.steps.invariant.way in let t = c.steps-test.false in rw (← e, ← w) t)

pub returns-else-k-lt2048-clause-reaches : goal.returns-else-k-lt2048-clause-reaches
returns-else-k-lt2048-clause-reaches c =
    let spacing : c.grid-spacing.result.spacing ≡ c.args.layout.now.grid.spacing = rw (c.grid-spacing.ensures.grid, c.ground.ensures.grid) refl in
    let m = c.requires.moving in
    let some = c.grid-spacing.ensures.valid.some_spacing in
    let none = rw (length_is c.args.layout.now c.args.params.now c.args.m c.grid-spacing.result.spacing c.requires.parts spacing) at c.steps.invariant.none in
    let i = c.steps.invariant in
    reaches_are c.args.layout.now c.args.params.now c.args.fast c.steps.k c.steps.reaches (rw (← spacing) some) c.requires.path m.most (let l = i.len in let f = i.few in omega arith)
    (steps_most c.args.layout.now c.args.params.now c.args.fast c.steps.k 2048 (omega arith) c.requires.steps m.speed m.most i.few none) none i.exact

pub returns-after-steps-clause-reaches : goal.returns-after-steps-clause-reaches
returns-after-steps-clause-reaches c =
    let spacing : c.grid-spacing.result.spacing ≡ c.args.layout.now.grid.spacing = rw (c.grid-spacing.ensures.grid, c.ground.ensures.grid) refl in
    let m = c.requires.moving in
    let some = c.grid-spacing.ensures.valid.some_spacing in
    let e = length_is c.args.layout.now c.args.params.now c.args.m c.grid-spacing.result.spacing c.requires.parts spacing in
    let none = rw e at c.steps.invariant.none in
    let i = c.steps.invariant in
    reaches_are c.args.layout.now c.args.params.now c.args.fast c.steps.k c.steps.reaches (rw (← spacing) some) c.requires.path m.most (let l = i.len in let f = i.few in omega arith)
    (steps_are c.args.layout.now c.args.params.now c.args.fast c.steps.k m.speed m.most none (let w = i.way in let t = c.steps-test.false in rw (← e, ← w) t)) none i.exact

pub steps-init : goal.steps-init
steps-init c =
    let moving = c.requires.moving in
    record {
      way = sym (front_zero c.args.params.now c.args.fast);
      speed = omega (arith, moving.most);
      gains = elim c.if-fast.branch [
        | then-fast w ↦ rw (w.gain-is, w.if-fast.true) refl
        | else-fast w ↦ rw (w.gain-is, w.if-fast.false) refl
      ];
      below = omega arith;
      few = omega arith;
      none = λ k l. absurd (omega arith);
      len = search rules;
      exact = λ k l. absurd (omega arith);
    }
