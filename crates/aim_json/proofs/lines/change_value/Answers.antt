use Rattle.aim_json.proofs.lines.change_value.Goals as goal

pub returns : goal.returns
returns c =
    let vehicle = c.count.ensures _ c.with.ensures in
    let step = c.count-2.ensures _ vehicle in
    let lead = c.count-3.ensures _ step in
    c.value.ensures _ lead
