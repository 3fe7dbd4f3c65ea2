-- What a loop that tries again knows of a pass whose view stayed.
use Rattle.std.proofs.Common.{◌≡◌, ℕ, List, sym, subst}
use Rattle.crossbeam_channel.specs.Fifo.{Pushes, Pops, Learns}

module _ {T V : Type 0} (holds : List T → List V → Type 0) (next : V → T → V → Type 0) (fact : V → List T → Type 0) where
  pub pushes_still : (n p q : ℕ) (v w : V) (x y : T) → q ≡ p → w ≡ v → y ≡ x → Pushes holds n p v x (next v x) × Learns holds p v (fact v) → Pushes holds n q w y (next w y) × Learns holds q w (fact w)
  pushes_still n p q v w x y a b c h = subst (λ (z : ℕ × V × T). Pushes holds n z.0 z.1 z.2 (next z.1 z.2) × Learns holds z.0 z.1 (fact z.1)) (λ i. (sym a i, sym b i, sym c i)) h

  pub pops_still : (p q : ℕ) (v w : V) → q ≡ p → w ≡ v → Pops holds p v (next v) × Learns holds p v (fact v) → Pops holds q w (next w) × Learns holds q w (fact w)
  pops_still p q v w a b h = subst (λ (z : ℕ × V). Pops holds z.0 z.1 (next z.1) × Learns holds z.0 z.1 (fact z.1)) (λ i. (sym a i, sym b i)) h

module _ {T V : Type 0} (next : V → T → V → Type 0) where
  pub sent_as : (v w u : V) (x y : T) → w ≡ v → y ≡ x → next w y u → next v x u
  sent_as v w u x y b c h = subst (λ (z : V × T). next z.0 z.1 u) (λ i. (b i, c i)) h

  pub came_as : (v w u : V) (x : T) → w ≡ v → next w x u → next v x u
  came_as v w u x b h = subst (λ z. next z x u) b h
