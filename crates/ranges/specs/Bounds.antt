-- How large sums, products, absolute values and rounded quotients are. Assumes nothing.
use Rattle.std.specs.Prelude.{ℕ, ◌+◌, ◌*◌, ◌≤◌, ◌<◌, ℤ, pos, negsuc, neg_ℤ, nat_abs, ◌+ℤ◌, ◌-ℤ◌, ◌*ℤ◌}
use Rattle.std.proofs.Common.{le_refl, le_trans, mul-le-mul, add-le-add, mul_comm, div-lt_iff_lt-mul, arith}
use Rattle.std.proofs.Math.Nat.{div-le_of_le-mul}
use Rattle.std.specs.Int.Signed.{shr_z}
use Rattle.integers.specs.Rounding.{nearest}
use Rattle.integers.specs.Signed.{nat_abs_add, nat_abs_mul, nat_abs_neg}

pub add_in : (x y : ℤ) (A B : ℕ) → nat_abs x ≤ A → nat_abs y ≤ B → nat_abs (x +ℤ y) ≤ A + B
add_in x y A B h k = le_trans (nat_abs_add x y) (add-le-add h k)

pub sub_in : (x y : ℤ) (A B : ℕ) → nat_abs x ≤ A → nat_abs y ≤ B → nat_abs (x -ℤ y) ≤ A + B
sub_in x y A B h k = le_trans (nat_abs_add x (neg_ℤ y)) (add-le-add h (rw nat_abs_neg k))

pub mul_in : (x y : ℤ) (A B : ℕ) → nat_abs x ≤ A → nat_abs y ≤ B → nat_abs (x *ℤ y) ≤ A * B
mul_in x y A B h k = rw nat_abs_mul (mul-le-mul h k)

shr_in : (z : ℤ) (d B : ℕ) → 0 < d → nat_abs z ≤ B * d → nat_abs (shr_z z d) ≤ B
shr_in (pos a) d B h k = div-le_of_le-mul d (rw (mul_comm d B) k)
shr_in (negsuc a) d B h k = (div-lt_iff_lt-mul h).1 k

pub nearest_in : (z : ℤ) (k B : ℕ) → 0 < k → nat_abs z ≤ B * k → nat_abs (nearest z k) ≤ B + 1
nearest_in z k B h e =
    shr_in (pos 2 *ℤ z +ℤ pos k) (2 * k) (B + 1) (omega arith)
    (le_trans (add_in (pos 2 *ℤ z) (pos k) (2 * (B * k)) k (mul_in (pos 2) z 2 (B * k) (le_refl 2) e) (le_refl k)) (omega arith))
