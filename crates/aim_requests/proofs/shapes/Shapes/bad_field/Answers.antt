use Rattle.std.proofs.Common.{◌≡◌, ℕ, ◌<◌, Option, Some, None, List, [], length, get_or, true, sym, ◌∙◌}
use Rattle.std.specs.Prelude.{IfSome}
use Rattle.std.specs.Option.{is_some}
use Rattle.aim_messages.specs.declared.messages.Body.TheVariants as body
use Rattle.aim_messages.specs.declared.messages.Params.{Params}
use Rattle.aim_layout.specs.Intersection.{Intersection}
use Rattle.aim_rules.specs.Bad.{bad}
use Rattle.aim_requests.specs.Requests.{Request}
use Rattle.aim_requests.specs.Shapes.{ArePreparedFor, IsAnew}
use Rattle.aim_requests.proofs.ShapeLemmas.{known_good}
use Rattle.aim_requests.proofs.shapes.Shapes.bad_field.Goals as goal

nothing : Request
nothing = record {
  message = record { seq = 0; body = body.Cancel 0 };
  bad = None;
  steps = record { fast = 0; steady = 0 };
  first = record { spans = []; room = 0 };
  second = record { spans = []; room = 0 };
}

found_good : (i : Intersection) (slots : List Request) (o : Option (ℕ × ℕ)) (p : Params) → ArePreparedFor i slots → is_some o ≡ true → IfSome o (λ f. f.0 < length slots) →
    IfSome o (λ f. (d : Request) → IsAnew i (get_or slots f.0 d) f.1 p) → bad i p ≡ None
found_good i slots None p known there within anew = absurd (cc)
found_good i slots (Some f) p known there within anew = known_good i (get_or slots f.0 nothing) f.1 p (known f.0 nothing within) (anew nothing)

pub returns-in-Err-clause-field : goal.returns-in-Err-clause-field
returns-in-Err-clause-field c =
    sym (found_good c.args.layout.now c.args.self.now c.find.result c.args.params.now c.requires.known (sym c.is_some.ensures ∙ c.if-is_some.true) c.find.ensures.within c.find.ensures.anew)
