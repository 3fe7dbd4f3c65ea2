use Rattle.std.proofs.Common.{◌≡◌, length, sym, ap, ◌∙◌, arith}
use Rattle.std.specs.Prelude.{insert}
use Rattle.std.proofs.lemmas.List.Edits.{insert_end}
use Rattle.aim_sheets.proofs.Edits.{inserted}
use Rattle.aim_sheets.proofs.sheets.Slots.insert.Goals as goal

pub invariant_of-self : goal.invariant_of-self
invariant_of-self c = (
  (let at : length c.self.inside.held.items ≡ c.args.at = omega (arith, c.if-at-len.true, c.len.ensures) in
      let items = c.in-Ok.ensures.items ∙ sym (insert_end c.self.inside.held.items c.args.span) ∙ ap (λ n. insert c.self.inside.held.items n c.args.span) at in
      inserted (record { spans = c.self.inside.held.items; room = c.self.inside.room }) c.args.self.now c.push.new.self.items c.args.at c.args.span c.self.view_is items c.self.invariant.0 c.requires.some c.requires.free
      c.requires.room c.requires.within c.requires.place),
  omega (arith, c.self.invariant.1, c.push.ensures.capacity),
)

pub invariant_of-self-2 : goal.invariant_of-self-2
invariant_of-self-2 c = (
  inserted (record { spans = c.self.inside.held.items; room = c.self.inside.room }) c.args.self.now c.insert.new.self.items c.args.at c.args.span c.self.view_is c.in-Ok-insert.ensures.items c.self.invariant.0 c.requires.some c.requires.free
      c.requires.room c.requires.within c.requires.place,
  omega (arith, c.self.invariant.1, c.insert.ensures.capacity),
)
