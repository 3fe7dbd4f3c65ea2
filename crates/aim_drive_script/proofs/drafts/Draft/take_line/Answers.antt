use Rattle.std.proofs.Common.{subst, List}
use Rattle.aim_messages.specs.declared.script.Line.{Line}
use Rattle.aim_drive_script.specs.Drafts.{LeadsTo}
use Rattle.aim_drive_script.proofs.Drafting.{draft_more, taken_behind}
use Rattle.aim_drive_script.proofs.drafts.Draft.take_line.Goals as goal

pub invariant_of-result : goal.invariant_of-result
invariant_of-result c =
    let leads : LeadsTo c.self.inside.lines.items c.args.line.now c.in-Ok.part = subst (λ (ls : List Line). LeadsTo ls c.args.line.now c.in-Ok.part) c.deref.ensures.value c.in-Ok.ensures in
    draft_more c.self.inside.lines.items c.push.new.self.items c.args.line.now c.self.inside.part c.in-Ok.part c.self.invariant c.requires leads.0 leads.1 leads.2 c.in-Ok-push.ensures.items

pub returns-in-Ok-push : goal.returns-in-Ok-push
returns-in-Ok-push c =
    let leads : LeadsTo c.self.inside.lines.items c.args.line.now c.in-Ok.part = subst (λ (ls : List Line). LeadsTo ls c.args.line.now c.in-Ok.part) c.deref.ensures.value c.in-Ok.ensures in
    taken_behind c.self.inside.lines.items c.args.self c.push.new.self.items c.args.line.now c.self.view_is leads.0 leads.1 c.in-Ok-push.ensures.items
