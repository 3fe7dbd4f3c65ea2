-- Words without a fault, place by place.
use Rattle.std.proofs.Common.{◌≡◌, List, [], ◌∷◌, Option, Some, None, refl}
use Rattle.std.specs.Option.{option_or}
use Rattle.aim_messages.specs.declared.script.LineKind.{LineKind}
use Rattle.aim_messages.specs.Texts.{Words}
use Rattle.aim_text_words.specs.Faults.{Place, fault_at, rest, first_fault}

-- no word has a fault in its place
abbrev pub NoFaults : List Place → Words → Type 0
NoFaults [] ws = Unit {0}
NoFaults (p ∷ ps) ws = (fault_at p ws ≡ None) × NoFaults ps (rest ws)

pub or_none : (a b : Option LineKind) → option_or a b ≡ None → (a ≡ None) × (b ≡ None)
or_none None b h = (refl, h)
or_none (Some k) b h = absurd cc

pub no_faults : (ps : List Place) (ws : Words) → first_fault ps ws ≡ None → NoFaults ps ws
no_faults [] ws h = tt
no_faults (p ∷ ps) ws h =
    let both = or_none (fault_at p ws) (first_fault ps (rest ws)) h in
    (both.0, no_faults ps (rest ws) both.1)
