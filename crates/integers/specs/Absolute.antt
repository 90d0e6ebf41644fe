-- The absolute value of a whole number. Assumes nothing.
use Rattle.std.specs.Prelude.{◌≡◌, refl, ◌⊎◌, zero, suc, ℤ, pos, negsuc, neg_ℤ, nat_abs, ◌+ℤ◌, ◌*ℤ◌}
use Rattle.std.proofs.Common.{inl, inr}
use Rattle.std.specs.Int.Signed.{le_z_yes}
unfoldable pub use Rattle.basics.specs.Numbers.{absℤ}
use Rattle.integers.specs.RingSolver.{name₂, name₄, reify}
use Rattle.integers.specs.Order.{◌≼◌, num, ≼_refl}
use Rattle.integers.specs.Omega.{zarith}
use Rattle.integers.specs.Inequalities.{≼_+}

pub abs_size : (z : ℤ) → nat_abs (absℤ z) ≡ nat_abs z
unfolding absℤ
abs_size z = refl

pub abs_nonneg : (z : ℤ) → pos 0 ≼ absℤ z
unfolding absℤ
abs_nonneg z = num (nat_abs z)

pub abs_sq : (z : ℤ) → absℤ z *ℤ absℤ z ≡ z *ℤ z
unfolding absℤ
abs_sq (pos n) = refl
abs_sq (negsuc n) = refl

-- it is z or −z
pub abs_is : (z : ℤ) → (absℤ z ≡ z) ⊎ (absℤ z ≡ neg_ℤ z)
unfolding absℤ
abs_is (pos n) = inl refl
abs_is (negsuc n) = inr refl

neg_flip : {a b : ℤ} → neg_ℤ b ≼ a → neg_ℤ a ≼ b
neg_flip {a} {b} = name₂ a b λ σ p q. simp (p, q, reify) (omega zarith)

pub abs_≼ : (z b : ℤ) → neg_ℤ b ≼ z → z ≼ b → absℤ z ≼ b
unfolding absℤ
abs_≼ (pos n) b h k = k
abs_≼ (negsuc n) b h k = neg_flip h

pub ≼_abs : (z : ℤ) → z ≼ absℤ z
unfolding absℤ
≼_abs (pos n) = ≼_refl refl
≼_abs (negsuc n) = le_z_yes tt

pub neg≼_abs : (z : ℤ) → neg_ℤ z ≼ absℤ z
unfolding absℤ
neg≼_abs (pos zero) = ≼_refl refl
neg≼_abs (pos (suc n)) = le_z_yes tt
neg≼_abs (negsuc n) = ≼_refl refl

pub abs_+ : (a b : ℤ) → absℤ (a +ℤ b) ≼ absℤ a +ℤ absℤ b
abs_+ a b = abs_≼ (a +ℤ b) (absℤ a +ℤ absℤ b) (low a b (absℤ a) (absℤ b) (neg≼_abs a) (neg≼_abs b)) (≼_+ (≼_abs a) (≼_abs b))
  where
    low : (a b c d : ℤ) → neg_ℤ a ≼ c → neg_ℤ b ≼ d → neg_ℤ (c +ℤ d) ≼ a +ℤ b
    low a b c d = name₄ a b c d λ σ p q r s. simp (p, q, r, s, reify) (omega zarith)
