use Rattle.std.proofs.Common.{inl, inr, refl}
use Rattle.aim_driver.proofs.bodies.active_after_sending.Goals as goal

pub returns-in-Change : goal.returns-in-Change
returns-in-Change c = elim c.in-Change.is [ inl h ↦ rw h.2 refl | inr h ↦ elim h [ inl g ↦ rw g.1 refl | inr g ↦ rw g.1 refl ] ]
