-- A line: one coordinate of a piece lies in the strip's, for e = E/D from −1 to 1, times D. Assumes nothing.
use Rattle.std.specs.Prelude.{◌≡◌, ℕ, ◌<◌, ℤ, pos, ◌+ℤ◌, ◌-ℤ◌, ◌*ℤ◌}
use Rattle.integers.specs.RingSolver.{name₂, name₆, name₇, name₈, reify, close, ok}
use Rattle.integers.specs.Order.{pos_≺}
use Rattle.integers.specs.Omega.{zarith}
use Rattle.integers.specs.Inequalities.{from, ◌&◌}
use Rattle.integers.specs.Rounding.{nearest}
use Rattle.integers.specs.Whole.{rest, off}
use Rattle.integers.specs.Within.{Within, times, cancel}
use Rattle.model.specs.Strips.{Side, centre_top, axis_top, straight}
use Rattle.model.specs.Exact.{linear}

-- ---- the line at the parameter u/D = (m + e)/N with e = E/D, E = N·u − m·D
paced : (a b N m u D : ℤ) → pos 16 *ℤ (N *ℤ linear a b u (D -ℤ u)) ≡ centre_top a (b -ℤ a) N m *ℤ D +ℤ axis_top (b -ℤ a) *ℤ (N *ℤ u -ℤ m *ℤ D)
paced a b N m u D = name₆ a b N m u D λ σ p₁ p₂ p₃ p₄ p₅ p₆. simp (p₁, p₂, p₃, p₄, p₅, p₆, reify, σ) (close σ _ _ ok)

-- ---- two roundings: z and p are the quotients of A and B by N, rounded
errors : (N X A B z p E D : ℤ) → pos 16 *ℤ (N *ℤ X) ≡ A *ℤ D +ℤ B *ℤ E → pos 2 *ℤ (N *ℤ (pos 16 *ℤ X -ℤ z *ℤ D -ℤ p *ℤ E)) ≡ pos 0 -ℤ pos 2 *ℤ (z *ℤ N -ℤ A) *ℤ D -ℤ pos 2 *ℤ (p *ℤ N -ℤ B) *ℤ E
errors N X A B z p E D = name₈ N X A B z p E D λ σ p₁ p₂ p₃ p₄ p₅ p₆ p₇ p₈. simp (p₁, p₂, p₃, p₄, p₅, p₆, p₇, p₈, reify, σ) (omega zarith)

-- the value off the strip's axis, from the two errors: r and s are 0 where a quotient was whole, and 1 where it was not
gather : (N Z D r s t₁ t₂ : ℤ) → pos 2 *ℤ (N *ℤ Z) ≡ pos 0 -ℤ t₁ -ℤ t₂ → Within t₁ (r *ℤ N *ℤ D) → Within t₂ (s *ℤ N *ℤ D) → Within (N *ℤ Z) (N *ℤ ((r +ℤ s) *ℤ D))
gather N Z D r s t₁ t₂ e h k = record {
  low = from (e & h.low & h.high & k.low & k.high) (name₇ N Z D r s t₁ t₂ λ σ p₁ p₂ p₃ p₄ p₅ p₆ p₇. simp (p₁, p₂, p₃, p₄, p₅, p₆, p₇, reify, σ) (omega zarith));
  high = from (e & h.low & h.high & k.low & k.high) (name₇ N Z D r s t₁ t₂ λ σ p₁ p₂ p₃ p₄ p₅ p₆ p₇. simp (p₁, p₂, p₃, p₄, p₅, p₆, p₇, reify, σ) (omega zarith));
}

own : (E D : ℤ) → Within E D → Within D D
own E D h = record {
  low = from (h.low & h.high) (name₂ E D λ σ p q. simp (p, q, reify) (omega zarith));
  high = from (h.low & h.high) (name₂ E D λ σ p q. simp (p, q, reify) (omega zarith));
}

-- ---- the coordinate of a piece
pub coordinate : (a b : ℤ) (n m : ℕ) (u D : ℤ) → 0 < n → Within (pos n *ℤ u -ℤ pos m *ℤ D) D → (let S : Side = straight a (b -ℤ a) n m in Within (pos 16 *ℤ linear a b u (D -ℤ u) -ℤ S.centre *ℤ D -ℤ S.axis *ℤ (pos n *ℤ u -ℤ pos m *ℤ D)) (S.box *ℤ D))
unfolding straight
coordinate a b n m u D hn h =
    let E : ℤ = pos n *ℤ u -ℤ pos m *ℤ D in
    let X : ℤ = linear a b u (D -ℤ u) in
    let A : ℤ = centre_top a (b -ℤ a) (pos n) (pos m) in
    let B : ℤ = axis_top (b -ℤ a) in
    cancel (pos_≺ hn)
    (gather (pos n) (pos 16 *ℤ X -ℤ nearest A n *ℤ D -ℤ nearest B n *ℤ E) D (pos (rest A n)) (pos (rest B n))
    (pos 2 *ℤ (nearest A n *ℤ pos n -ℤ A) *ℤ D) (pos 2 *ℤ (nearest B n *ℤ pos n -ℤ B) *ℤ E)
    (errors (pos n) X A B (nearest A n) (nearest B n) E D (paced a b (pos n) (pos m) u D))
    (times (off A n hn) (own E D h)) (times (off B n hn) h))
