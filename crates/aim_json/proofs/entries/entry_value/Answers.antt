use Rattle.aim_json.proofs.entries.entry_value.Goals as goal

pub returns : goal.returns
returns c =
    let position = c.count.ensures _ c.new.ensures in
    let caller = c.member.ensures _ _ position c.caller_value.ensures in
    let moment = c.count-2.ensures _ caller in
    let act = c.member-2.ensures _ _ moment c.act_value.ensures in
    let reply = c.member-3.ensures _ _ act c.reply_value.ensures in
    c.value.ensures _ reply
