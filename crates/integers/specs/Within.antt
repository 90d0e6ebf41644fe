-- Numbers within a bound, −b ≤ x ≤ b. Assumes nothing.
use Rattle.std.specs.Prelude.{ℤ, pos, neg_ℤ, ◌*ℤ◌}
use Rattle.integers.specs.RingSolver.{name₂, name₃, name₄, reify}
use Rattle.integers.specs.Order.{◌≼◌, ◌≺◌, ◌⊠◌, gap}
use Rattle.integers.specs.Omega.{zarith}
use Rattle.integers.specs.Inequalities.{from, ◌&◌, ≼_trans, ≼_*l_off}
use Rattle.integers.specs.Absolute.{absℤ, ≼_abs, neg≼_abs}

pub record Within (x b : ℤ) : Type 0 where
  pub low : neg_ℤ b ≼ x
  pub high : x ≼ b

-- a bound is not below 0
pub bound_nonneg : (x b : ℤ) → Within x b → pos 0 ≼ b
bound_nonneg x b h = from (h.low & h.high) (name₂ x b λ σ p q. simp (p, q, reify, σ) (omega zarith))

-- an absolute value
neg_low : (x b : ℤ) → neg_ℤ x ≼ b → neg_ℤ b ≼ x
neg_low x b = name₂ x b λ σ p q. simp (p, q, reify) (omega zarith)

pub of_abs : {x b : ℤ} → absℤ x ≼ b → Within x b
of_abs {x} {b} h = record { low = neg_low x b (≼_trans (neg≼_abs x) h); high = ≼_trans (≼_abs x) h }

pub own_abs : (x : ℤ) → Within x (absℤ x)
own_abs x = record { low = neg_low x (absℤ x) (neg≼_abs x); high = ≼_abs x }

-- a product
pub times : {x a y b : ℤ} → Within x a → Within y b → Within (x *ℤ y) (a *ℤ b)
times {x} {a} {y} {b} h k = record {
  low = from (gap h.high ⊠ gap k.high & gap h.low ⊠ gap k.low) (name₄ x a y b λ σ p q r s. simp (p, q, r, s, reify, σ) (omega zarith));
  high = from (gap h.high ⊠ gap k.low & gap h.low ⊠ gap k.high) (name₄ x a y b λ σ p q r s. simp (p, q, r, s, reify, σ) (omega zarith));
}

-- a positive factor goes, or comes
off_low : (c x b : ℤ) → neg_ℤ (c *ℤ b) ≼ c *ℤ x → c *ℤ neg_ℤ b ≼ c *ℤ x
off_low c x b = name₃ c x b λ σ p q r. simp (p, q, r, reify) (omega zarith)

pub cancel : {c x b : ℤ} → pos 0 ≺ c → Within (c *ℤ x) (c *ℤ b) → Within x b
cancel {c} {x} {b} h k = record { low = ≼_*l_off h (off_low c x b k.low); high = ≼_*l_off h k.high }

pub scale : {c x b : ℤ} → pos 0 ≼ c → Within x b → Within (c *ℤ x) (c *ℤ b)
scale {c} {x} {b} h k = record {
  low = from (h ⊠ gap k.low) (name₃ c x b λ σ p q r. simp (p, q, r, reify, σ) (omega zarith));
  high = from (h ⊠ gap k.high) (name₃ c x b λ σ p q r. simp (p, q, r, reify, σ) (omega zarith));
}
