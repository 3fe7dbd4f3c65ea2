use Rattle.std.proofs.Common.{refl}
use Rattle.aim_turnstile.proofs.Opens.{opens_as}
use Rattle.aim_turnstile.proofs.turnstile.ruled.Goals as goal

pub new-requires : goal.new-requires
new-requires g c =
    opens_as _ c.args.kept _ c.args.about.now.numbers.value.items _ _ c.requires.kept refl c.in_ok-slots.ensures c.requires.empty (g.met.K.Kept.lawful_empty _) c.requires.few c.requires.distinct
