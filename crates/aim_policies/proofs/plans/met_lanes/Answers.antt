use Rattle.std.proofs.Common.{◌<◌, ◌||◌, ◌&&◌, ◌∙◌, ap, length, get_or}
use Rattle.aim_geometry.proofs.Bits.{has_bit_or}
use Rattle.aim_layout.specs.declared.policies.Phase.{Phase}
use Rattle.aim_layout.specs.Policies.{has_lane}
use Rattle.aim_policies.proofs.Rounds.{met_done, met_step, or_next}
use Rattle.aim_policies.proofs.Places.{offset_fits, fewer_left, zero_most, none_met, begin_fits, end_fits, later_fits, end_most}
use Rattle.aim_policies.proofs.plans.met_lanes.Goals as goal

-- what a read past the end would give
abbrev none : Phase
none = record { red = 0; green = 0; lanes = 0 }

pub loop-phase-init : goal.loop-phase-init
loop-phase-init c = record { lanes = λ lane. none_met lane _; most = zero_most }

pub offset_bounds-phases-phase-index : goal.offset_bounds-phases-phase-index
offset_bounds-phases-phase-index c = offset_fits c.loop-phase.phase-index (length c.args.phases.now) c.loop-phase-test.true c.requires.few

pub bounds-phases-phase-index : goal.bounds-phases-phase-index
bounds-phases-phase-index c = c.loop-phase-test.true

pub overflow_add-begin : goal.overflow_add-begin
overflow_add-begin c =
    begin_fits c.args.phases.now c.loop-phase.phase-index c.loop-phase.end c.from.result none c.requires.range c.requires.few c.loop-phase-test.true c.loop-phase.invariant.most c.from.ensures

pub overflow_add-end : goal.overflow_add-end
overflow_add-end c =
    end_fits c.args.phases.now c.loop-phase.phase-index c.loop-phase.end c.from.result c.from-in-loop-phase.result none c.requires.range c.requires.few c.loop-phase-test.true c.loop-phase.invariant.most
    c.from.ensures c.from-in-loop-phase.ensures

pub meets-requires : goal.meets-requires
meets-requires c =
    later_fits c.args.phases.now c.loop-phase.phase-index c.loop-phase.end c.from.result c.args.round none c.requires.range c.requires.few c.loop-phase-test.true c.loop-phase.invariant.most c.from.ensures c.requires.round

pub loop-phase-smaller : goal.loop-phase-smaller
loop-phase-smaller c = fewer_left c.loop-phase.phase-index (length c.args.phases.now) c.loop-phase-test.true

pub loop-phase-preserved : goal.loop-phase-preserved
loop-phase-preserved c =
    let ps = c.args.phases.now in
    let l : c.loop-phase.phase-index < length ps = c.loop-phase-test.true in record {
      lanes = λ lane. or_next _ _ _ _ _ _ (c.loop-phase.invariant.lanes lane)
          (met_step _ _ _ _ c.loop-phase.phase-index lane c.from.result c.from-in-loop-phase.result ps none l c.from.ensures c.from-in-loop-phase.ensures)
          (has_bit_or c.loop-phase.lanes c.if_met-lanes.result lane ∙ ap (λ b. has_lane c.loop-phase.lanes lane || b) (c.if_met-lanes.ensures lane ∙ ap (λ b. b && has_lane (get_or ps c.loop-phase.phase-index none).lanes lane) c.meets.ensures));
      most = end_most ps c.loop-phase.phase-index c.loop-phase.end c.from.result c.from-in-loop-phase.result none c.requires.range l c.loop-phase.invariant.most c.from.ensures c.from-in-loop-phase.ensures;
    }

pub returns : goal.returns
returns c = λ lane. met_done _ _ _ c.loop-phase.phase-index c.loop-phase.end lane c.args.phases.now _ _ c.loop-phase-test.false (c.loop-phase.invariant.lanes lane)
