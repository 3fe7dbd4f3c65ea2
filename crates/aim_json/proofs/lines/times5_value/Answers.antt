use Rattle.aim_json.proofs.lines.times5_value.Goals as goal

pub returns : goal.returns
returns c =
    let horizon = c.count.ensures _ c.with.ensures in
    let longest = c.count-2.ensures _ horizon in
    let clearance = c.count-3.ensures _ longest in
    let internal = c.count-4.ensures _ clearance in
    let edge = c.count-5.ensures _ internal in
    c.value.ensures _ edge
