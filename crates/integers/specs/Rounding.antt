-- Rounding in ℤ: `shr_z`, which rounds down, and rounding to the nearest by it. Assumes nothing.
use Rattle.std.specs.Prelude.{ℕ, suc, ◌*◌, ◌/◌, ◌<◌, ℤ, pos, negsuc, neg_ℤ, ◌+ℤ◌, ◌-ℤ◌, ◌*ℤ◌}
use Rattle.std.proofs.Math.Nat.{mul-div-le, div-add-mod}
use Rattle.std.proofs.Common.{mod-lt, arith}
use Rattle.std.specs.Int.Signed.{shr_z}
pub use Rattle.basics.specs.Numbers.{nearest}
use Rattle.integers.specs.RingSolver.{name₂, name₃, reify}
use Rattle.integers.specs.Order.{◌≼◌, ◌≺◌, pos_≼, pos_≺}
use Rattle.integers.specs.Omega.{zarith}
use Rattle.integers.specs.Inequalities.{from, ◌&◌}
use Rattle.integers.specs.Absolute.{absℤ, abs_≼}

neg_≼ : (a b : ℤ) → a ≼ b → neg_ℤ b ≼ neg_ℤ a
neg_≼ a b = name₂ a b λ σ p q. simp (p, q, reify) (omega zarith)

neg_≺ : (a b c : ℤ) → a ≺ b +ℤ c → neg_ℤ b ≺ neg_ℤ a +ℤ c
neg_≺ a b c = name₃ a b c λ σ p q r. simp (p, q, r, reify) (omega zarith)

-- m ⌊z / m⌋ ≤ z < m ⌊z / m⌋ + m
pub shr_low : (z : ℤ) (m : ℕ) → 0 < m → pos m *ℤ shr_z z m ≼ z
shr_low (pos a) m h = pos_≼ (mul-div-le a m)
shr_low (negsuc a) m h = neg_≼ (pos (suc a)) (pos (m * suc (a / m))) (pos_≼ (omega (arith, div-add-mod a m, mod-lt a h)))

pub shr_high : (z : ℤ) (m : ℕ) → 0 < m → z ≺ pos m *ℤ shr_z z m +ℤ pos m
shr_high (pos a) m h = pos_≺ (omega (arith, div-add-mod a m, mod-lt a h))
shr_high (negsuc a) m h =
    neg_≺ (pos (m * suc (a / m))) (pos (suc a)) (pos m) (pos_≺ (omega (arith, div-add-mod a m, mod-lt a h)))

-- to the nearest multiple of m: q = ⌊(2z + m) / 2m⌋ has |2(q m − z)| ≤ m
near : (q z m : ℤ) → pos 2 *ℤ m *ℤ q ≼ pos 2 *ℤ z +ℤ m → pos 2 *ℤ z +ℤ m ≺ pos 2 *ℤ m *ℤ q +ℤ pos 2 *ℤ m → absℤ (pos 2 *ℤ (q *ℤ m -ℤ z)) ≼ m
near q z m h k = abs_≼ _ _
    (from (h & k) (name₃ q z m λ σ p r s. simp (p, r, s, reify, σ) (omega zarith)))
    (from (h & k) (name₃ q z m λ σ p r s. simp (p, r, s, reify, σ) (omega zarith)))

pub nearest_near : (z : ℤ) (m : ℕ) → 0 < m → absℤ (pos 2 *ℤ (nearest z m *ℤ pos m -ℤ z)) ≼ pos m
nearest_near z m h =
    near (nearest z m) z (pos m) (shr_low (pos 2 *ℤ z +ℤ pos m) (2 * m) (omega arith)) (shr_high (pos 2 *ℤ z +ℤ pos m) (2 * m) (omega arith))
