use Rattle.aim_json.proofs.lines.grid_value.Goals as goal

pub returns : goal.returns
returns c =
    let side = c.count.ensures _ c.with.ensures in
    let n = c.count-2.ensures _ side in
    let spacing = c.count-3.ensures _ n in
    let fixed = c.count-4.ensures _ spacing in
    let half = c.count-5.ensures _ fixed in
    let spans = c.count-6.ensures _ half in
    c.value.ensures _ spans
