use Rattle.aim_json.proofs.lines.link_value.Goals as goal

pub returns : goal.returns
returns c =
    let vehicle = c.count.ensures _ c.with.ensures in
    let all = c.member.ensures _ _ vehicle c.fates_value.ensures in
    c.value.ensures _ all
