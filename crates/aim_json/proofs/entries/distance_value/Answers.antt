use Rattle.aim_json.proofs.entries.distance_value.Goals as goal

pub returns : goal.returns
returns c =
    let distance = c.member.ensures _ _ c.with.ensures c.from.ensures in
    c.value.ensures _ distance
