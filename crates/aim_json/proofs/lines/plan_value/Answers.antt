use Rattle.aim_json.proofs.lines.plan_value.Goals as goal

pub returns : goal.returns
returns c =
    let vehicle = c.count.ensures _ c.with.ensures in
    let first = c.count-2.ensures _ vehicle in
    let lead = c.count-3.ensures _ first in
    let resend = c.count-object.ensures _ lead in
    let way = c.put_way-object.ensures _ resend in
    let all = c.put_vehicle.ensures _ way in
    let window = c.put_window.ensures _ all in
    c.value.ensures _ window
