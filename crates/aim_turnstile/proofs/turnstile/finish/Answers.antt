use Rattle.aim_turnstile.proofs.Closes.{found, none_found, ends_with}
use Rattle.aim_turnstile.proofs.turnstile.finish.Goals as goal

pub unreachable-requires : goal.unreachable-requires
unreachable-requires g c =
    let m = c.requires.main in
    let f = found _ _ _ _ _ _ m.0 _ m.1 m.2 c.close_with-closed.ensures.values.2 in
    none_found _ f.0 _ f.1 c.take.ensures.value c.in_default.is

pub returns : goal.returns
returns g c ps had count =
    let f = found _ _ _ _ _ _ ps _ had count c.close_with-closed.ensures.values.2 in
    ends_with _ _ f.0 _ f.1 f.2 c.in-Some.ensures.value
