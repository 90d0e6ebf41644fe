-- A frame's numbers with their bounds, as the code computes with them. Assumes nothing.
use Rattle.std.proofs.Common.{sym, ap₂, subst, mul-le-mul_right, arith, to_z}
use Rattle.std.specs.Prelude.{ℕ, ◌*◌, ◌≤◌, ◌<◌, ◌^◌, T, ltb, ℤ, pos, nat_abs, ◌*ℤ◌}
use Rattle.std.specs.Int.{w64}
use Rattle.std.proofs.Math.Facts.{to_z_pos}
use Rattle.integers.specs.Signed.{Made, bits, lit, held, called, times, back, nat_abs_mul}
use Rattle.columns.specs.declared.Frame.{Frame}
use Rattle.columns.specs.Limits.{FrameSized}

-- a number times a count, as the code multiplies them
pub by_count : {u x : ℤ} {A : ℕ} (k B : ℕ) → Made u x A → k < 2 ^ 63 → nat_abs x * k ≤ B → T (ltb B (2 ^ 63)) → Made (bits u *ℤ to_z w64 k) (x *ℤ pos k) B
by_count {u} {x} k B m h b t = called (ap₂ (λ a c. a *ℤ c) (back m) (to_z_pos w64 h)) (subst (λ n. n ≤ B) (sym (nat_abs_mul x (pos k))) b) t

module _ (f : Frame) (s : FrameSized f) where
  pub x_made : Made f.x f.x 33554432
  x_made = held f.x s.x_size tt

  pub y_made : Made f.y f.y 33554432
  y_made = held f.y s.y_size tt

  pub half_made : Made f.q f.q 8388608
  half_made = held f.q s.q_size tt

  pub reach_made : Made f.reach f.reach 16777216
  reach_made = held f.reach s.reach_sized.r_size tt

  -- a cell's side
  pub side_made : Made (to_z w64 2 *ℤ bits f.q) (pos 2 *ℤ f.q) 16777216
  side_made = times (lit 2 tt) half_made tt

  pub place_made : (i : ℕ) → i ≤ f.n → Made (bits (to_z w64 2 *ℤ bits f.q) *ℤ to_z w64 i) (pos 2 *ℤ f.q *ℤ pos i) 16777216
  place_made i h = by_count i 16777216 side_made (omega (arith, s.n_size)) (rw (nat_abs_mul (pos 2) f.q) (omega (arith, mul-le-mul_right (nat_abs f.q) h, s.side_size))) tt
