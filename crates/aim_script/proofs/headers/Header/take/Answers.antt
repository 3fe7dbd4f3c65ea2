use Rattle.std.proofs.Common.{◌≡◌, ℕ, None, refl}
use Rattle.aim_messages.specs.declared.script.Line.{Line}
use Rattle.aim_messages.specs.declared.script.Line.TheVariants as line
use Rattle.aim_script.specs.Said.{version_in, vehicles_in}
use Rattle.aim_script.proofs.headers.Header.take.Goals as goal

no_version : (l : Line) → ((n : ℕ) → l ≡ line.Version n → ⊥) → version_in l ≡ None
no_version (line.Version n) other = absurd (other n refl)
no_version _ other = refl

no_vehicles : (l : Line) → ((n : ℕ) → l ≡ line.Vehicles n → ⊥) → vehicles_in l ≡ None
no_vehicles (line.Vehicles n) other = absurd (other n refl)
no_vehicles _ other = refl

pub returns-in_default : goal.returns-in_default
returns-in_default c before st =
    let l = c.args.line.now in
    c.more.ensures before l st.version (record { version = no_version l c.in_default.not-Version; vehicles = no_vehicles l c.in_default.not-Vehicles }) (c.next.ensures before st.version st.place)
