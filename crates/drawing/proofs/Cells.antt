-- The numbers of a block: where its middle is, half its side, and that no step leaves 64 bits. Assumes nothing.
use mathlib.Core.Path.{◌≡◌, sym, ap₂, subst}
use Prim.Native.Nat.{ℕ, ◌+◌, ◌*◌, ◌≤◌, ◌<◌, ◌^◌}
use native.Mathlib.Nat.{le_trans, mul-le-mul_right}
use native.Mathlib.Omega.{arith}
use lib.Dec.{T, ltb}
use lib.IntN.{ℤ, pos, negsuc, nat_abs, ◌*ℤ◌}
use lib.Signed.{non_neg}
use mir.Syntax.{w64}
use mir.Val.{SFits, to_z, of_z}
use mir.Facts.{to_z-of_z, to_z_pos}
use Rattle.integers.specs.Signed.{Made, called, held, back, nat_abs_add, nat_abs_mul}
use Rattle.inheritance.specs.Blocks.{middle}
use Rattle.search.specs.Probes.{CellSized}
use Rattle.columns.specs.declared.Frame.{Frame}
use Rattle.columns.specs.Limits.{FrameSized}

-- a count times a number, as the code multiplies them
pub scaled : (k : ℕ) (q : ℤ) (B : ℕ) → k < 2 ^ 63 → SFits w64 q → k * nat_abs q ≤ B → T (ltb B (2 ^ 63)) → Made (to_z w64 k *ℤ to_z w64 (of_z w64 q)) (pos k *ℤ q) B
scaled k q B h f b t = called (ap₂ (λ u v. u *ℤ v) (to_z_pos w64 h) (to_z-of_z f)) (subst (λ n. n ≤ B) (sym (nat_abs_mul (pos k) q)) b) t

-- of a block within n columns
pub doubled : (n c w Q : ℕ) → n * Q ≤ 8388608 → c + w ≤ n → (2 * c + w) * Q ≤ 16777216
doubled n c w Q h k = omega (arith, mul-le-mul_right Q (both n c w k))
  where
    both : (n c w : ℕ) → c + w ≤ n → 2 * c + w ≤ 2 * n
    both n c w k = omega arith

pub single : (n c w Q : ℕ) → n * Q ≤ 8388608 → c + w ≤ n → w * Q ≤ 8388608
single n c w Q h k = le_trans (mul-le-mul_right Q (part n c w k)) h
  where
    part : (n c w : ℕ) → c + w ≤ n → w ≤ n
    part n c w k = omega arith

middle_size : (x q : ℤ) (n c w : ℕ) → nat_abs x ≤ 33554432 → n * nat_abs q ≤ 8388608 → c + w ≤ n → nat_abs (middle x q c w) ≤ 536870912
middle_size x q n c w hx h k = omega (arith, nat_abs_add x (pos (2 * c + w) *ℤ q), nat_abs_mul (pos (2 * c + w)) q, doubled n c w (nat_abs q) h k)

pub nonneg_times : (k : ℕ) (q : ℤ) → T (non_neg q) → T (non_neg (pos k *ℤ q))
nonneg_times k (pos m) t = tt
nonneg_times k (negsuc m) t = absurd t

module _ (f : Frame) (s : FrameSized f) (c r w : ℕ) (hc : c + w ≤ f.n) (hr : r + w ≤ f.n) where
  pub block_sized : CellSized (middle f.x f.q c w) (middle f.y f.q r w) (pos w *ℤ f.q) f.reach
  block_sized = record {
    cx_size = middle_size f.x f.q f.n c w s.x_size s.side_size hc;
    cy_size = middle_size f.y f.q f.n r w s.y_size s.side_size hr;
    s_size = omega (arith, nat_abs_mul (pos w) f.q, single f.n c w (nat_abs f.q) s.side_size hc);
    s_nonneg = nonneg_times w f.q s.q_nonneg;
    reach_sized = s.reach_sized;
  }

pub reach_back : (f : Frame) → FrameSized f → to_z w64 (of_z w64 f.reach) ≡ f.reach
reach_back f s = back (held f.reach s.reach_sized.r_size tt)
