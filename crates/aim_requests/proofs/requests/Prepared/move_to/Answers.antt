use Rattle.std.proofs.Common.{◌≡◌, ℕ, List, ap, subst, sym, ◌∙◌, None, map}
use Rattle.std.specs.Prelude.{option_map}
use Rattle.aim_messages.specs.declared.messages.Message.{Message}
use Rattle.aim_sheets.specs.declared.spans.Span.{Span}
use Rattle.aim_rules.specs.History.{params_of}
use Rattle.aim_rules.specs.Trials.{arriving_at}
use Rattle.aim_sheets.specs.Moves.{moved}
use Rattle.aim_sheets.specs.Sheets.{Spans}
use Rattle.aim_requests.specs.Requests.{IsPreparedFor, Request}
use Rattle.aim_requests.proofs.ShapeLemmas.{is_move, first_may, second_may, moved_request, whole_asked}
use Rattle.aim_requests.proofs.requests.Prepared.move_to.Goals as goal

-- a sheet that has moved has the layout's room
roomed : (xs : List Span) (from to was room : ℕ) (sheet : Spans) → sheet ≡ record { spans = map (moved from to) xs; room = was } → was ≡ room → sheet ≡ record { spans = map (moved from to) xs; room = room }
roomed xs from to was room sheet is same = is ∙ ap (λ k. record { spans = map (moved from to) xs; room = k }) same

pub move_to-requires : goal.move_to-requires
move_to-requires c =
    let t = c.times-edge.ensures.times ∙ c.ground.ensures.times in
    let m = is_move _ _ _ _ _ _ t c.times-edge.ensures.valid c.requires.prepared c.requires.asks c.requires.from c.requires.to c.requires.last in
    first_may _ _ _ _ _ _ m c.self.inside.first.spans (ap (λ (r : Request). r.first.spans) c.self.view_is) (rw c.spans.ensures.spans at c.spans.ensures.marked)

pub move_to-requires-2 : goal.move_to-requires-2
move_to-requires-2 c =
    let t = c.times-edge.ensures.times ∙ c.ground.ensures.times in
    let m = is_move _ _ _ _ _ _ t c.times-edge.ensures.valid c.requires.prepared c.requires.asks c.requires.from c.requires.to c.requires.last in
    second_may _ _ _ _ _ _ m c.self.inside.second.spans (ap (λ (r : Request). r.second.spans) c.self.view_is) (rw c.spans-2.ensures.spans at c.spans-2.ensures.marked)

pub returns-clause-prepared : goal.returns-clause-prepared
returns-clause-prepared c =
    let i = c.args.layout.now in
    let t = c.times-edge.ensures.times ∙ c.ground.ensures.times in
    let m = is_move _ _ _ _ _ _ t c.times-edge.ensures.valid c.requires.prepared c.requires.asks c.requires.from c.requires.to c.requires.last in
    let none : c.self.inside.bad ≡ None = ap (λ (r : Request). r.bad) c.self.view_is ∙ (whole_asked i c.args.self.now c.requires.asks.0 c.requires.prepared c.requires.asks.1).0 in
    let n : Message = record { seq = c.self.inside.message.seq; body = c.arriving-self-inside.result } in
    let says : params_of n.body ≡ option_map (λ p. arriving_at p c.args.to) (params_of c.args.self.now.message.body) = c.arriving-self-inside.ensures.params ∙ ap (λ (r : Request). option_map (λ p. arriving_at p c.args.to) (params_of r.message.body)) c.self.view_is in
    subst (λ b. IsPreparedFor i (record { message = n; bad = b; steps = c.self.inside.steps; first = c.move_to.new.self; second = c.move_to-2.new.self })) (sym none)
    (moved_request _ _ _ _ _ _ m n c.self.inside.steps c.move_to.new.self c.move_to-2.new.self c.self.inside.first.spans c.self.inside.second.spans
    says (ap (λ (r : Request). r.steps) c.self.view_is) (ap (λ (r : Request). r.first.spans) c.self.view_is) (ap (λ (r : Request). r.second.spans) c.self.view_is)
    (rw c.spans.ensures.spans at c.spans.ensures.marked) (rw c.spans-2.ensures.spans at c.spans-2.ensures.marked)
    (roomed _ _ _ _ _ _ c.move_to.ensures (ap (λ (r : Request). r.first.room) c.self.view_is ∙ c.requires.prepared.first_room))
    (roomed _ _ _ _ _ _ c.move_to-2.ensures (ap (λ (r : Request). r.second.room) c.self.view_is ∙ c.requires.prepared.second_room)))

pub invariant_of-self : goal.invariant_of-self
invariant_of-self c =
    let i = c.args.layout.now in
    let t = c.times-edge.ensures.times ∙ c.ground.ensures.times in
    let m = is_move _ _ _ _ _ _ t c.times-edge.ensures.valid c.requires.prepared c.requires.asks c.requires.from c.requires.to c.requires.last in
    let none : c.self.inside.bad ≡ None = ap (λ (r : Request). r.bad) c.self.view_is ∙ (whole_asked i c.args.self.now c.requires.asks.0 c.requires.prepared c.requires.asks.1).0 in
    let n : Message = record { seq = c.self.inside.message.seq; body = c.arriving-self-inside.result } in
    let says : params_of n.body ≡ option_map (λ p. arriving_at p c.args.to) (params_of c.args.self.now.message.body) = c.arriving-self-inside.ensures.params ∙ ap (λ (r : Request). option_map (λ p. arriving_at p c.args.to) (params_of r.message.body)) c.self.view_is in (
      i,
      subst (λ b. IsPreparedFor i (record { message = n; bad = b; steps = c.self.inside.steps; first = c.move_to.new.self; second = c.move_to-2.new.self })) (sym none)
          (moved_request _ _ _ _ _ _ m n c.self.inside.steps c.move_to.new.self c.move_to-2.new.self c.self.inside.first.spans c.self.inside.second.spans
          says (ap (λ (r : Request). r.steps) c.self.view_is) (ap (λ (r : Request). r.first.spans) c.self.view_is) (ap (λ (r : Request). r.second.spans) c.self.view_is)
          (rw c.spans.ensures.spans at c.spans.ensures.marked) (rw c.spans-2.ensures.spans at c.spans-2.ensures.marked)
          (roomed _ _ _ _ _ _ c.move_to.ensures (ap (λ (r : Request). r.first.room) c.self.view_is ∙ c.requires.prepared.first_room))
          (roomed _ _ _ _ _ _ c.move_to-2.ensures (ap (λ (r : Request). r.second.room) c.self.view_is ∙ c.requires.prepared.second_room))),
    )
