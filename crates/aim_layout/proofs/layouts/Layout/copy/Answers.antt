use Rattle.aim_layout.proofs.layouts.Layout.copy.Goals as goal

pub invariant_of-result : goal.invariant_of-result
invariant_of-result c =
    rw (c.in_ok-lanes.ensures, c.as_slice-3.ensures.value, c.in_ok-policies.ensures, c.as_slice.ensures.value, c.in_ok-tiles.ensures.items, c.as_slice-2.ensures.value) c.self.invariant
