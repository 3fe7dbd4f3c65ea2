use Rattle.aim_json.proofs.entries.reject_value.Goals as goal

pub returns : goal.returns
returns c =
    let reason = c.member.ensures _ _ c.with.ensures c.reason_value.ensures in
    let next = c.count.ensures _ reason in
    let held = c.member-2.ensures _ _ next c.held_value.ensures in
    c.value.ensures _ held
