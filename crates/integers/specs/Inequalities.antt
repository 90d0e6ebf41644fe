-- Laws of the order of ℤ: those that `omega zarith` proves of itself, and those that need a product, a case or an absolute value. Assumes nothing.
use Rattle.std.specs.Prelude.{Bool, true, false, not, ◌⊎◌, T, ℤ, pos, ◌+ℤ◌, ◌*ℤ◌}
use Rattle.std.proofs.Common.{inl, inr, ⊎_elim}
use Rattle.std.specs.Int.Signed.{lt_z, lt_z_yes, lt_z_no, clash_ℤ}
pub use Rattle.basics.specs.Orders.{◌⊠⁺◌}
use Rattle.integers.specs.RingSolver.{name₂, name₃, name₄, reify, close, ok}
use Rattle.integers.specs.Order.{◌≼◌, ◌≺◌, ◌⊠◌, gap, gap⁺, lt_by}
use Rattle.integers.specs.Omega.{zarith}

-- facts, and what follows from them: `from (h & k) (name₂ x y λ σ p q. simp (p, q, reify, σ) (omega zarith))`
infixl 5 ◌&◌
pub ◌&◌ : {A B : Type 0} → A → B → A × B
a & b = (a, b)

pub from : {A G : Type 0} → A → (A → G) → G
from a f = f a

-- ---- order
pub ≼_trans : {a b c : ℤ} → a ≼ b → b ≼ c → a ≼ c
≼_trans {a} {b} {c} = name₃ a b c λ σ p q r. simp (p, q, r, reify) (omega zarith)

pub ≺_≼_trans : {a b c : ℤ} → a ≺ b → b ≼ c → a ≺ c
≺_≼_trans {a} {b} {c} = name₃ a b c λ σ p q r. simp (p, q, r, reify) (omega zarith)

pub ≼_≺_trans : {a b c : ℤ} → a ≼ b → b ≺ c → a ≺ c
≼_≺_trans {a} {b} {c} = name₃ a b c λ σ p q r. simp (p, q, r, reify) (omega zarith)

pub weak : {a b : ℤ} → a ≺ b → a ≼ b
weak {a} {b} = name₂ a b λ σ p q. simp (p, q, reify) (omega zarith)

pub ≼_+ : {a b c d : ℤ} → a ≼ b → c ≼ d → a +ℤ c ≼ b +ℤ d
≼_+ {a} {b} {c} {d} = name₄ a b c d λ σ p q r s. simp (p, q, r, s, reify) (omega zarith)

-- one of the two holds
pub split≼ : (a b : ℤ) → (a ≼ b) ⊎ (b ≺ a)
split≼ a b = go (lt_z b a) (λ t. inr (lt_z_yes t)) (λ t. inl (lt_z_no t))
  where
    go : (c : Bool) → (T c → (a ≼ b) ⊎ (b ≺ a)) → (T (not c) → (a ≼ b) ⊎ (b ≺ a)) → (a ≼ b) ⊎ (b ≺ a)
    go true f g = f tt
    go false f g = g tt

-- to show a ≤ b, refute b < a
pub by_contra : {a b : ℤ} → (b ≺ a → ⊥) → a ≼ b
by_contra {a} {b} f = ⊎_elim (λ h. h) (λ h. absurd (f h)) (split≼ a b)

-- ---- sums and products of what is positive; `◌⊠⁺◌` is the law of a product
infixl 6 ◌⊞⁺◌
pub ◌⊞⁺◌ : {a b : ℤ} → pos 0 ≺ a → pos 0 ≼ b → pos 0 ≺ a +ℤ b
◌⊞⁺◌ {a} {b} = name₂ a b λ σ p q. simp (p, q, reify, σ) (omega zarith)

pub ≺_*l : {a b c : ℤ} → pos 0 ≺ c → a ≺ b → c *ℤ a ≺ c *ℤ b
≺_*l {a} {b} {c} h k = lt_by (h ⊠⁺ gap⁺ k) (name₃ a b c λ σ p q r. simp (p, q, r, reify) (close σ _ _ ok))

pub ≼_* : {a b c d : ℤ} → pos 0 ≼ a → a ≼ b → pos 0 ≼ c → c ≼ d → a *ℤ c ≼ b *ℤ d
≼_* {a} {b} {c} {d} h k l m = from (h ⊠ gap m & gap k ⊠ l & gap k ⊠ gap m) (name₄ a b c d λ σ p q r s. simp (p, q, r, s, reify, σ) (omega zarith))

-- a factor that is positive is taken off
pub ≼_*l_off : {a b c : ℤ} → pos 0 ≺ c → c *ℤ a ≼ c *ℤ b → a ≼ b
≼_*l_off h k = by_contra (λ l. clash_ℤ (≺_*l h l) k)

-- squares: from a² ≤ b² to a ≤ b
pub sq_≼ : {a b : ℤ} → pos 0 ≼ b → a *ℤ a ≼ b *ℤ b → a ≼ b
sq_≼ {a} {b} h k =
    by_contra (λ l. from (k & gap⁺ l ⊠⁺ gap⁺ l & h ⊠ gap (weak l)) (name₂ a b λ σ p q. simp (p, q, reify, σ) (omega zarith)))
