use Rattle.aim_tiles.proofs.Fills.{filled_within, filled_below, filled_above}
use Rattle.aim_tiles.proofs.counted.CountedWords.clear.Goals as goal

pub returns-clause-within : goal.returns-clause-within
returns-clause-within g c = filled_within c.args.self.now.items.items c.deref_mut.result.now c.fill.new.self c.args.self.now.items.len c.args.at c.args.count c.deref_mut.ensures.value c.deref_mut.ensures.len c.requires (c.fill.ensures.after (λ y h. h))

pub returns-clause-below : goal.returns-clause-below
returns-clause-below g c = filled_below c.args.self.now.items.items c.deref_mut.result.now c.fill.new.self c.args.self.now.items.len c.args.at c.args.count c.deref_mut.ensures.value c.deref_mut.ensures.len c.requires (c.fill.ensures.after (λ y h. h))

pub returns-clause-above : goal.returns-clause-above
returns-clause-above g c = filled_above c.args.self.now.items.items c.deref_mut.result.now c.fill.new.self c.args.self.now.items.len c.args.at c.args.count c.deref_mut.ensures.value c.deref_mut.ensures.len c.requires (c.fill.ensures.after (λ y h. h))
