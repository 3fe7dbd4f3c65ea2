use Rattle.std.proofs.Common.{◌≡◌, ◌*◌, inl, inr, length, ap, refl, arith}
use Rattle.aim_shards.proofs.Seats.{opens_as}
use Rattle.aim_shards.proofs.opening.laid.Goals as goal

pub new-requires : goal.new-requires
new-requires c =
    let w = c.requires.within in
    let sets = c.args.sets.now.items in
    let many : c.len.result ≡ length c.args.numbers.now.items = omega (arith, c.len.ensures) in
    let s = c.in_ok-slots.ensures in
    opens_as c.args.sets.now.items _ c.args.numbers.now.items _ c.args.calls _ _ s.0 s.1 s.2 s.3 (ap (λ v. v.items) c.of.ensures) (ap (λ v. v.items) c.of-2.ensures) s.4
    c.requires.few.0 c.requires.few.1 (ap (λ k. k * c.args.calls) many) c.requires.distinct
    (λ q lt. s.5 s.0 (inl refl) q sets lt w) (λ q lt. s.5 s.1 (inr (inl refl)) q sets lt w) (λ q lt. s.5 s.2 (inr (inr (inl refl))) q sets lt w) (λ q lt. s.5 s.3 (inr (inr (inr refl))) q sets lt w)
