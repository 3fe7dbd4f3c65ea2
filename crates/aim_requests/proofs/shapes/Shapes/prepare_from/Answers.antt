use Rattle.std.proofs.Common.{◌≡◌, ℕ, Option, Some, ap, sym, ◌∙◌, get_or}
use Rattle.aim_messages.specs.declared.messages.Params.{Params}
use Rattle.aim_layout.specs.Intersection.{Intersection}
use Rattle.aim_requests.specs.Requests.{Request, prepared_params}
use Rattle.aim_requests.specs.Shapes.{AsksAnew, IsAnew}
use Rattle.aim_requests.proofs.shapes.Shapes.prepare_from.Goals as goal

asks_anew : (i : Intersection) (r s : Request) (from : ℕ) (p : Params) (o : Option Params) → IsAnew i s from p → r ≡ s → o ≡ Some p → AsksAnew i r from p.arrive o
asks_anew i r s from p o a same asked =
    let k = a.known in
    (k.0, ap prepared_params same ∙ k.1, k.2, p.latest, asked ∙ ap Some k.3, a.window)

pub moved_from-requires-clause-asks : goal.moved_from-requires-clause-asks
moved_from-requires-clause-asks c =
    asks_anew c.args.layout.now c.index.result.now (get_or c.args.self.now c.in-Some-find.at c.index.result.now) c.in-Some-find.from c.in-Some.params _
    (c.in-Some-find.ensures.anew c.index.result.now) (rw c.self.view_is at c.index.ensures) (sym c.params_in.ensures ∙ c.in-Some.is)

pub moved_from-requires-clause-from : goal.moved_from-requires-clause-from
moved_from-requires-clause-from c = (c.in-Some-find.ensures.anew c.index.result.now).from_edge

pub moved_from-requires-clause-to : goal.moved_from-requires-clause-to
moved_from-requires-clause-to c = (c.in-Some-find.ensures.anew c.index.result.now).to_edge

pub moved_from-requires-clause-last : goal.moved_from-requires-clause-last
moved_from-requires-clause-last c = (c.in-Some-find.ensures.anew c.index.result.now).last
