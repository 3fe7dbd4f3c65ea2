use Rattle.aim_sessions.proofs.approaches.Callers.new.Goals as goal

pub returns-in-Ok-clause-none : goal.returns-in-Ok-clause-none
returns-in-Ok-clause-none c = (c.in_ok-list.ensures.items, c.in-Ok.ensures.items_if_clones_equal (λ b same. same))

pub returns-in-Ok-clause-room : goal.returns-in-Ok-clause-room
returns-in-Ok-clause-room c = c.in_ok-list.ensures.capacity
