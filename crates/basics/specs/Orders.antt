-- The order of the whole numbers, and two facts of it. Assumes nothing.
use Rattle.std.specs.Prelude.{ℕ, zero, suc, ◌*◌, ℤ, pos, negsuc, ◌*ℤ◌, ◌≤ℤ◌, ◌<ℤ◌}
use Rattle.std.proofs.Common.{arith, lt→ltb}
use Rattle.std.specs.Int.Signed.{lt_z_yes}

-- a ≼ b: a is at most b; a ≺ b: a is below b. The kit's order, read after sums and products: its own `a ≤ℤ b +ℤ c` is `(a ≤ℤ b) +ℤ c`
infix 4 ◌≼◌ ◌≺◌
abbrev pub ◌≼◌ : ℤ → ℤ → Type 0
a ≼ b = a ≤ℤ b

abbrev pub ◌≺◌ : ℤ → ℤ → Type 0
a ≺ b = a <ℤ b

-- ---- a fraction carries a proof that its denominator is positive, so that its definition needs these two facts
-- a numeral from 1 up is positive
pub num⁺ : (n : ℕ) → pos 0 ≺ pos (suc n)
num⁺ n = lt_z_yes (lt→ltb 0 (suc n) (omega arith))

-- a product of positive numbers is positive
infixl 7 ◌⊠⁺◌
pub ◌⊠⁺◌ : {a b : ℤ} → pos 0 ≺ a → pos 0 ≺ b → pos 0 ≺ a *ℤ b
◌⊠⁺◌ {a} {b} h k = go a b h k
  where
    go : (a b : ℤ) → pos 0 ≺ a → pos 0 ≺ b → pos 0 ≺ a *ℤ b
    go (pos zero) b h k = absurd h.lt
    go (negsuc m) b h k = absurd h.lt
    go (pos (suc m)) (pos zero) h k = absurd k.lt
    go (pos (suc m)) (negsuc n) h k = absurd k.lt
    go (pos (suc m)) (pos (suc n)) h k = lt_z_yes (lt→ltb 0 (suc m * suc n) (omega arith))
