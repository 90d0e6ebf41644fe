-- Whole numbers: size, powers, quotients to the nearest and whether they are whole. Assumes nothing.
use Rattle.std.specs.Prelude.{cond, ℕ, zero, suc, ◌*◌, ◌%◌, eqb, ℤ, pos, nat_abs, ◌+ℤ◌, ◌*ℤ◌}
use Rattle.std.specs.Int.Signed.{shr_z}

-- the number without its sign. It is shut, so that a square of it stays a product of two unknowns: say `unfolding absℤ` where it has to compute
unfoldable pub absℤ : ℤ → ℤ
absℤ z = pos (nat_abs z)

-- x multiplied by itself n times, 1 for n = 0; x² and x³ are x *ℤ x and x *ℤ x *ℤ x
infixl 8 ◌^ℤ◌
abbrev pub ◌^ℤ◌ : ℤ → ℕ → ℤ
x ^ℤ zero = pos 1
x ^ℤ suc zero = x
x ^ℤ suc (suc n) = x ^ℤ suc n *ℤ x

-- z over m, for m from 1 up, to the nearest whole number, and up where two are as near: what the kit's `shr_z`, which rounds down, gives of z/m + 1/2
abbrev pub nearest : ℤ → ℕ → ℤ
nearest z m = shr_z (pos 2 *ℤ z +ℤ pos m) (2 * m)

-- 1 where z over m, for m from 1 up, leaves a remainder, and 0 where it is whole
abbrev pub rest : ℤ → ℕ → ℕ
rest z m = cond (eqb (nat_abs z % m) 0) 0 1
