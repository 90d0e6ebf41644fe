-- The numbers of a frame and of a view with their bounds, and what is computed of them. Assumes nothing.
use Rattle.std.specs.Prelude.{◌≡◌, Bool, true, false, cond, ℕ, ◌≤◌, ◌^◌, T, ltb, ℤ, pos, negsuc, neg_ℤ, nat_abs, ◌-ℤ◌, ◌*ℤ◌}
use Rattle.std.proofs.Common.{ap, ◌∙◌, subst, arith}
use Rattle.std.proofs.Math.Decide.{dec_le}
use Rattle.std.proofs.Math.Nat.{pow-le-pow_right}
use Rattle.std.specs.Int.Signed.{lt_z, non_neg}
use Rattle.integers.specs.Signed.{Made, bits, held, called, back, nat_abs_add, nat_abs_neg}
use Rattle.integers.specs.Absolute.{absℤ, abs_size}
use Rattle.strip_tests.specs.Limits.{SpanSized}
use Rattle.row_laws.specs.Columns.{off}
use Rattle.row_laws.specs.Slanted.{along_q}
use Rattle.columns.specs.declared.Frame.{Frame}
use Rattle.columns.specs.declared.View.{View}
use Rattle.columns.specs.Limits.{FrameSized, ViewSized}

-- ---- what calls return
pub abs_of : {u x v : ℤ} {B : ℕ} → Made u x B → v ≡ pos (nat_abs (bits u)) → T (ltb B (2 ^ 63)) → Made v (absℤ x) B
unfolding absℤ
abs_of {u} {x} {v} {B} m e t = called (e ∙ ap absℤ (back m)) (rw (abs_size x) m.within) t

along_size : (p : ℤ) (t : Bool) → nat_abs p ≤ 536870912 → nat_abs (cond t (pos 0 -ℤ p) p) ≤ 536870912
along_size p true h = omega (arith, nat_abs_add (pos 0) (neg_ℤ p), nat_abs_neg p)
along_size p false h = h

pub along_of : {u v x y w : ℤ} {B : ℕ} → Made u x 536870912 → Made v y B → w ≡ along_q (bits u) (bits v) → Made w (along_q x y) 536870912
along_of {u} {v} {x} {y} {w} m n e = called (rw (back m, back n) at e) (along_size x (lt_z y (pos 0)) m.within) tt

pub gap_of : {u z r : ℤ} {B : ℕ} (s : ℤ) (i : ℕ) → Made u z B → r ≡ off s (bits u) (pos i) → nat_abs r ≤ 1073741824 → Made r (off s z (pos i)) 1073741824
gap_of {u} {z} {r} s i m e h = let f : r ≡ off s z (pos i) = rw (back m) at e in called f (subst (λ t. nat_abs t ≤ 1073741824) f h) tt

-- ---- steps: a cell's side, and any other that is above 0
small_power : (k : ℕ) → 2 ^ k ≤ 16777216 → k ≤ 60
small_power k h = elim (dec_le k 60) [ yes p ↦ p | no p ↦ absurd (omega (arith, h, pow-le-pow_right {n = 2} (omega arith) {i = 61} {j = k} (omega arith))) ]

pub side_sized : (f : Frame) → FrameSized f → f.k ≤ 60
side_sized f s = small_power f.k (omega (arith, s.k_is, s.q_size))

pub nonneg_times : (a b : ℤ) → T (non_neg a) → T (non_neg b) → T (non_neg (a *ℤ b))
nonneg_times (pos m) (pos n) s t = tt
nonneg_times (pos m) (negsuc n) s t = absurd t
nonneg_times (negsuc m) b s t = absurd s

-- ---- of a view
module _ (v : View) (s : ViewSized v) where
  pub vx_made : Made v.x v.x 578813952
  vx_made = held v.x s.x_size tt

  pub vy_made : Made v.y v.y 578813952
  vy_made = held v.y s.y_size tt

  pub p_made : Made v.p v.p 536870912
  p_made = held v.p s.p_size tt

  pub q_made : Made v.q v.q 536870912
  q_made = held v.q s.q_size tt

  pub a_made : Made v.a v.a 268435456
  a_made = held v.a s.a_size tt

  pub b_made : Made v.b v.b 268435456
  b_made = held v.b s.b_size tt

  pub ex_made : Made v.ex v.ex 805306368
  ex_made = held v.ex (rw s.ex_is (omega (arith, nat_abs_add (absℤ v.p) v.a, abs_size v.p, s.p_size, s.a_size))) tt

  pub ey_made : Made v.ey v.ey 805306368
  ey_made = held v.ey (rw s.ey_is (omega (arith, nat_abs_add (absℤ v.q) v.b, abs_size v.q, s.q_size, s.b_size))) tt

-- what the tests require
pub span_sized : (f : Frame) → FrameSized f → (v : View) → ViewSized v → (x y : ℤ) → nat_abs x ≤ 1073741824 → nat_abs y ≤ 1073741824 → SpanSized (absℤ x) (absℤ y) v.ex v.ey f.reach
span_sized f s v t x y h k = record {
  ax_size = rw (abs_size x) h;
  ay_size = rw (abs_size y) k;
  ex_size = (ex_made v t).within;
  ey_size = (ey_made v t).within;
  span_reach = s.reach_sized.r_size;
}
