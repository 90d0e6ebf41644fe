-- A cubic: one coordinate of a piece lies in the strip's, for e = E/D from −1 to 1, times D³. Assumes nothing.
use Rattle.std.specs.Prelude.{◌≡◌, ℕ, ◌*◌, ◌<◌, ℤ, pos, ◌+ℤ◌, ◌-ℤ◌, ◌*ℤ◌}
use Rattle.std.proofs.Common.{◌∙◌, ap, mul-pos, arith}
use Rattle.integers.specs.RingSolver.{◌^ℤ◌, name₂, name₅, name₆, name₈, name₉, name₁₀, name₁₂, reify, close, ok}
use Rattle.integers.specs.Order.{◌≼◌, ◌≺◌, pos_≼, pos_≺, ◌⊠◌, gap, sq}
use Rattle.integers.specs.Omega.{zarith}
use Rattle.integers.specs.Inequalities.{from, ◌&◌, weak}
use Rattle.integers.specs.Absolute.{absℤ}
use Rattle.integers.specs.Rounding.{nearest}
use Rattle.integers.specs.Whole.{rest, off}
use Rattle.model.specs.Strips.{Side, PowerForm, power_of, Numerators, numerators, remainders, pad_of, side_over, curved, a0, a1, a2, a3}
use Rattle.model.specs.Exact.{bernstein}
use Rattle.integers.specs.Within.{Within, bound_nonneg, own_abs, times, cancel}

-- ---- Chebyshev: on −1..1 the parts of e, e², e³ that the strip leaves out stay within 1
module _ (E D : ℤ) (h : Within E D) where
  nonneg : pos 0 ≼ D
  nonneg = from (h.low & h.high) (name₂ E D λ σ p q. simp (p, q, reify, σ) (omega zarith))

  first : Within (E *ℤ D ^ℤ 2) (D ^ℤ 3)
  first = record {
    low = from (gap h.low ⊠ sq D) (name₂ E D λ σ p q. simp (p, q, reify, σ) (omega zarith));
    high = from (gap h.high ⊠ sq D) (name₂ E D λ σ p q. simp (p, q, reify, σ) (omega zarith));
  }

  second : Within ((pos 2 *ℤ E ^ℤ 2 -ℤ D ^ℤ 2) *ℤ D) (D ^ℤ 3)
  second = record {
    low = from (sq E ⊠ nonneg) (name₂ E D λ σ p q. simp (p, q, reify, σ) (omega zarith));
    high = from (gap h.low ⊠ gap h.high ⊠ nonneg) (name₂ E D λ σ p q. simp (p, q, reify, σ) (omega zarith));
  }

  third : Within (pos 4 *ℤ E ^ℤ 3 -ℤ pos 3 *ℤ E *ℤ D ^ℤ 2) (D ^ℤ 3)
  third = record {
    low = from (gap h.low ⊠ sq (D -ℤ pos 2 *ℤ E)) (name₂ E D λ σ p q. simp (p, q, reify, σ) (omega zarith));
    high = from (gap h.high ⊠ sq (D +ℤ pos 2 *ℤ E)) (name₂ E D λ σ p q. simp (p, q, reify, σ) (omega zarith));
  }

  cube : Within (D ^ℤ 3) (D ^ℤ 3)
  cube = record {
    low = from (sq D ⊠ nonneg) (name₂ E D λ σ p q. simp (p, q, reify, σ) (omega zarith));
    high = from (sq D ⊠ nonneg) (name₂ E D λ σ p q. simp (p, q, reify, σ) (omega zarith));
  }

-- ---- the piece's polynomial, at the parameter u/D = (m + e)/N with e = E/D, E = N·u − m·D
cubic : (b0 b1 b2 b3 N m u D : ℤ) → (let c : PowerForm = power_of b0 b1 b2 b3 in let E : ℤ = N *ℤ u -ℤ m *ℤ D in N ^ℤ 3 *ℤ bernstein b0 b1 b2 b3 u (D -ℤ u) ≡ a0 c N m *ℤ D ^ℤ 3 +ℤ a1 c N m *ℤ (E *ℤ D ^ℤ 2) +ℤ a2 c N m *ℤ (E ^ℤ 2 *ℤ D) +ℤ a3 c *ℤ E ^ℤ 3)
cubic b0 b1 b2 b3 N m u D = name₈ b0 b1 b2 b3 N m u D λ σ p0 p1 p2 p3 pN pm pu pD. simp (p0, p1, p2, p3, pN, pm, pu, pD, reify, σ) (close σ _ _ ok)

-- sixteen times it, in the parts that Chebyshev bounds
parts : (n X A0 A1 A2 A3 E D : ℤ) → n *ℤ X ≡ A0 *ℤ D ^ℤ 3 +ℤ A1 *ℤ (E *ℤ D ^ℤ 2) +ℤ A2 *ℤ (E ^ℤ 2 *ℤ D) +ℤ A3 *ℤ E ^ℤ 3 → pos 16 *ℤ (n *ℤ X) ≡ (pos 16 *ℤ A0 +ℤ pos 8 *ℤ A2) *ℤ D ^ℤ 3 +ℤ (pos 16 *ℤ A1 +ℤ pos 12 *ℤ A3) *ℤ (E *ℤ D ^ℤ 2) +ℤ pos 8 *ℤ A2 *ℤ ((pos 2 *ℤ E ^ℤ 2 -ℤ D ^ℤ 2) *ℤ D) +ℤ pos 4 *ℤ A3 *ℤ (pos 4 *ℤ E ^ℤ 3 -ℤ pos 3 *ℤ E *ℤ D ^ℤ 2)
parts n X A0 A1 A2 A3 E D h = ap (λ t. pos 16 *ℤ t) h ∙ name₆ A0 A1 A2 A3 E D λ σ p0 p1 p2 p3 pE pD. simp (p0, p1, p2, p3, pE, pD, reify, σ) (close σ _ _ ok)

-- ---- four roundings. `n` is N³, W is D³, Y, Y₂, Y₃ the parts; z, p, s, h the quotients of A, B, S, H, rounded; a, c bound |s|, |h|. An r is
-- 0 where its quotient was whole, and 1 where it was not
rounded : (S s a n r : ℤ) → pos 0 ≼ n → Within (pos 2 *ℤ (s *ℤ n -ℤ S)) (r *ℤ n) → Within s a → Within (pos 2 *ℤ S) ((pos 2 *ℤ a +ℤ r) *ℤ n)
rounded S s a n r hn h k = record {
  low = from (h.high & hn ⊠ gap k.low) (name₅ S s a n r λ σ p₁ p₂ p₃ p₄ p₅. simp (p₁, p₂, p₃, p₄, p₅, reify, σ) (omega zarith));
  high = from (h.low & hn ⊠ gap k.high) (name₅ S s a n r λ σ p₁ p₂ p₃ p₄ p₅. simp (p₁, p₂, p₃, p₄, p₅, reify, σ) (omega zarith));
}

errors : (n X A B S H z p W Y Y₂ Y₃ : ℤ) → pos 16 *ℤ (n *ℤ X) ≡ A *ℤ W +ℤ B *ℤ Y +ℤ S *ℤ Y₂ +ℤ H *ℤ Y₃ → pos 2 *ℤ (n *ℤ (pos 16 *ℤ X -ℤ z *ℤ W -ℤ p *ℤ Y)) ≡ pos 2 *ℤ S *ℤ Y₂ +ℤ pos 2 *ℤ H *ℤ Y₃ -ℤ pos 2 *ℤ (z *ℤ n -ℤ A) *ℤ W -ℤ pos 2 *ℤ (p *ℤ n -ℤ B) *ℤ Y
errors n X A B S H z p W Y Y₂ Y₃ = name₁₂ n X A B S H z p W Y Y₂ Y₃ λ σ p₁ p₂ p₃ p₄ p₅ p₆ p₇ p₈ p₉ pa pb pc. simp (p₁, p₂, p₃, p₄, p₅, p₆, p₇, p₈, p₉, pa, pb, pc, reify, σ) (omega zarith)

-- the four errors together
gather : (v t₁ t₂ t₃ t₄ b₁ b₂ b₃ b₄ : ℤ) → v ≡ t₃ +ℤ t₄ -ℤ t₁ -ℤ t₂ → Within t₁ b₁ → Within t₂ b₂ → Within t₃ b₃ → Within t₄ b₄ → Within v (b₁ +ℤ b₂ +ℤ b₃ +ℤ b₄)
gather v t₁ t₂ t₃ t₄ b₁ b₂ b₃ b₄ e h₁ h₂ h₃ h₄ = record {
  low = from (e & h₁.high & h₂.high & h₃.low & h₄.low) (name₉ v t₁ t₂ t₃ t₄ b₁ b₂ b₃ b₄ λ σ p₁ p₂ p₃ p₄ p₅ p₆ p₇ p₈ p₉. simp (p₁, p₂, p₃, p₄, p₅, p₆, p₇, p₈, p₉, reify) (omega zarith));
  high = from (e & h₁.low & h₂.low & h₃.high & h₄.high) (name₉ v t₁ t₂ t₃ t₄ b₁ b₂ b₃ b₄ λ σ p₁ p₂ p₃ p₄ p₅ p₆ p₇ p₈ p₉. simp (p₁, p₂, p₃, p₄, p₅, p₆, p₇, p₈, p₉, reify) (omega zarith));
}

-- the value off the strip's axis: a pad P that is at least half of all r covers the roundings
padded : (n Z W a c r₁ r₂ r₃ r₄ P : ℤ) → pos 0 ≼ n → pos 0 ≼ W → r₁ +ℤ r₂ +ℤ r₃ +ℤ r₄ ≼ pos 2 *ℤ P → Within (pos 2 *ℤ (n *ℤ Z)) (r₁ *ℤ n *ℤ W +ℤ r₂ *ℤ n *ℤ W +ℤ (pos 2 *ℤ a +ℤ r₃) *ℤ n *ℤ W +ℤ (pos 2 *ℤ c +ℤ r₄) *ℤ n *ℤ W) → Within (n *ℤ Z) (n *ℤ ((a +ℤ c +ℤ P) *ℤ W))
padded n Z W a c r₁ r₂ r₃ r₄ P hn hW k h = record {
  low = from (h.low & gap k ⊠ (hn ⊠ hW)) (name₁₀ n Z W a c r₁ r₂ r₃ r₄ P λ σ p₁ p₂ p₃ p₄ p₅ p₆ p₇ p₈ p₉ pa. simp (p₁, p₂, p₃, p₄, p₅, p₆, p₇, p₈, p₉, pa, reify, σ) (omega zarith));
  high = from (h.high & gap k ⊠ (hn ⊠ hW)) (name₁₀ n Z W a c r₁ r₂ r₃ r₄ P λ σ p₁ p₂ p₃ p₄ p₅ p₆ p₇ p₈ p₉ pa. simp (p₁, p₂, p₃, p₄, p₅, p₆, p₇, p₈, p₉, pa, reify, σ) (omega zarith));
}

-- half of a count, rounded up, is such a pad
enough : (r : ℕ) → pos r ≼ pos 2 *ℤ pos (pad_of r)
enough r = pos_≼ (omega arith)

-- ---- the coordinate of a piece
module _ (a : Numerators) (k : ℕ) (up : 0 < k) (X W Y Y₂ Y₃ : ℤ) where
  abbrev side : Side
  side = side_over a k

  close_by : pos 16 *ℤ (pos k *ℤ X) ≡ a.centre *ℤ W +ℤ a.axis *ℤ Y +ℤ a.second *ℤ Y₂ +ℤ a.third *ℤ Y₃ → Within W W → Within Y W → Within Y₂ W → Within Y₃ W → Within (pos 16 *ℤ X -ℤ side.centre *ℤ W -ℤ side.axis *ℤ Y) (side.box *ℤ W)
  close_by e w y y₂ y₃ =
      let s : ℤ = nearest a.second k in
      let h : ℤ = nearest a.third k in
      let n : pos 0 ≺ pos k = pos_≺ up in
      cancel n
      (padded (pos k) (pos 16 *ℤ X -ℤ side.centre *ℤ W -ℤ side.axis *ℤ Y) W (absℤ s) (absℤ h) (pos (rest a.centre k)) (pos (rest a.axis k)) (pos (rest a.second k)) (pos (rest a.third k)) (pos (pad_of (remainders a k)))
      (weak n) (bound_nonneg W W w) (enough (remainders a k))
      (gather _ _ _ _ _ _ _ _ _ (errors (pos k) X a.centre a.axis a.second a.third side.centre side.axis W Y Y₂ Y₃ e)
      (times (off a.centre k up) w) (times (off a.axis k up) y)
      (times (rounded a.second s (absℤ s) (pos k) (pos (rest a.second k)) (weak n) (off a.second k up) (own_abs s)) y₂)
      (times (rounded a.third h (absℤ h) (pos k) (pos (rest a.third k)) (weak n) (off a.third k up) (own_abs h)) y₃)))

pub coordinate : (b0 b1 b2 b3 : ℤ) (n m : ℕ) (u D : ℤ) → 0 < n → Within (pos n *ℤ u -ℤ pos m *ℤ D) D → (let S : Side = curved (power_of b0 b1 b2 b3) n m in Within (pos 16 *ℤ bernstein b0 b1 b2 b3 u (D -ℤ u) -ℤ S.centre *ℤ D ^ℤ 3 -ℤ S.axis *ℤ ((pos n *ℤ u -ℤ pos m *ℤ D) *ℤ D ^ℤ 2)) (S.box *ℤ D ^ℤ 3))
unfolding curved
coordinate b0 b1 b2 b3 n m u D hn h =
    let c : PowerForm = power_of b0 b1 b2 b3 in
    let E : ℤ = pos n *ℤ u -ℤ pos m *ℤ D in
    let X : ℤ = bernstein b0 b1 b2 b3 u (D -ℤ u) in
    close_by (numerators c (pos n) (pos m)) (n * n * n) (mul-pos (mul-pos hn hn) hn) X
    (D ^ℤ 3) (E *ℤ D ^ℤ 2) ((pos 2 *ℤ E ^ℤ 2 -ℤ D ^ℤ 2) *ℤ D) (pos 4 *ℤ E ^ℤ 3 -ℤ pos 3 *ℤ E *ℤ D ^ℤ 2)
    (parts (pos (n * n * n)) X (a0 c (pos n) (pos m)) (a1 c (pos n) (pos m)) (a2 c (pos n) (pos m)) (a3 c) E D (cubic b0 b1 b2 b3 (pos n) (pos m) u D))
    (cube E D h) (first E D h) (second E D h) (third E D h)
