use Rattle.aim_json.proofs.lines.event_value.Goals as goal

pub returns : goal.returns
returns c =
    let first = c.count.ensures _ c.with.ensures in
    let second = c.count-2.ensures _ first in
    let all = c.member.ensures _ _ second c.message_value.ensures in
    c.value.ensures _ all
