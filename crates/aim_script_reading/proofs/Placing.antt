-- How many bytes were taken.
use Rattle.std.proofs.Common.{◌≡◌, ℕ, ◌+◌, Bool, List, [], ◌++◌, length, Option, Some, None, refl, sym, ap, ◌∙◌, length-append, arith}
use Rattle.std.proofs.KnownBytes.{Consumes-nil, Consumes-trans, Consumes-kept}
use Rattle.std.specs.Io.KnownBytes.{Consumes, Keeps, prepend_known}
use Rattle.aim_io.specs.Reader.{Reader, IsSound, after_call, input, taken_by}
use Rattle.aim_script_reading.specs.Short.{TakesAtMost}

-- so many bytes are gone, up to those that are to come
pub record Placed (bytes rest : Option (List ℕ)) (place : ℕ) : Type 0 where
  pub gone : List ℕ
  pub taken : Consumes bytes rest gone
  pub count : length gone ≡ place

pub placed_start : (left : Option (List ℕ)) → Placed left left 0
placed_start left = record { gone = []; taken = Consumes-nil left; count = refl }

pub held_consumes : (left : Option (List ℕ)) (held : List ℕ) → Consumes (prepend_known held left) left held
held_consumes None held = tt
held_consumes (Some rest) held = refl

pub placed_more : (all then now : Option (List ℕ)) (old new : Reader) (more : Bool) → Placed all then old.place → Consumes then now (taken_by new more) → new ≡ after_call old new more → Placed all now new.place
placed_more all then now old new more p taken after = record {
  gone = p.gone ++ taken_by new more;
  taken = Consumes-trans all then now _ _ p.taken taken;
  count = length-append p.gone (taken_by new more) ∙ ap (λ n. n + length (taken_by new more)) p.count ∙ sym (ap (λ (r : Reader). r.place) after);
}

pub placed_kept : (all then now : Option (List ℕ)) (place : ℕ) → Placed all then place → Keeps then now → Placed all now place
placed_kept all then now place p keeps = record { gone = p.gone; taken = Consumes-kept all then now _ p.taken keeps; count = p.count }

pub most : (all left : Option (List ℕ)) (new : Reader) → Placed all (input new left) new.place → IsSound new → TakesAtMost 67108865 all left
most all left new p sound = record {
  bytes = p.gone ++ new.held;
  taken = Consumes-trans all (input new left) left _ _ p.taken (held_consumes left new.held);
  within = omega (arith, length-append p.gone new.held, p.count, sound.read);
}
