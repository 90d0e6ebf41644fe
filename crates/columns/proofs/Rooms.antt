-- The products of the slanted test with their bounds. Assumes nothing.
use Rattle.std.specs.Prelude.{◌≡◌, Bool, false, ℕ, ◌+◌, ◌*◌, ◌≤◌, ◌<◌, T, ℤ, pos, nat_abs, ◌+ℤ◌, ◌-ℤ◌, ◌*ℤ◌}
use Rattle.std.proofs.Common.{ap, ◌∙◌, mul-le-mul, arith, to_z, w64}
use Rattle.std.specs.Int.Signed.{le_z, non_neg, pos-nat_abs}
use Rattle.integers.specs.Signed.{Made, bits, lit, times, plus, minus, back, nat_abs_mul}
use Rattle.integers.specs.Absolute.{absℤ, abs_size}
use Rattle.model.specs.Explore.{squares}
use Rattle.model.specs.Jobs.{is_zero}
use Rattle.model.specs.Roots.{root}
use Rattle.row_laws.specs.Slanted.{along_q, shared}
use Rattle.columns.specs.declared.Frame.{Frame}
use Rattle.columns.specs.declared.View.{View}
use Rattle.columns.specs.Frames.{by_count, reach_made, side_made}
use Rattle.columns.specs.Limits.{FrameSized, ViewSized, RoomFor}
use Rattle.columns.proofs.Numbers.{abs_of, along_of, nonneg_times, p_made, q_made, a_made, b_made, vx_made}
use Rattle.columns.proofs.Crossings.{nat_abs_squares, abs_is_nonneg, abs_above}

-- ---- the room
module _ (f : Frame) (s : FrameSized f) (v : View) (t : ViewSized v) {p q : ℤ} (ep : p ≡ pos (nat_abs (bits v.p))) (eq : q ≡ pos (nat_abs (bits v.q))) where
  p_is : Made p (absℤ v.p) 536870912
  p_is = abs_of (p_made v t) ep tt

  q_is : Made q (absℤ v.q) 536870912
  q_is = abs_of (q_made v t) eq tt

  pub a_part : Made (bits v.a *ℤ bits q) (v.a *ℤ absℤ v.q) 144115188075855872
  a_part = times (a_made v t) q_is tt

  pub b_part : Made (bits v.b *ℤ bits p) (v.b *ℤ absℤ v.p) 144115188075855872
  b_part = times (b_made v t) p_is tt

  pub two_parts : Made (bits (bits v.a *ℤ bits q) +ℤ bits (bits v.b *ℤ bits p)) (v.a *ℤ absℤ v.q +ℤ v.b *ℤ absℤ v.p) 288230376151711744
  two_parts = plus a_part b_part tt

  module _ (n : ℕ) (small : n ≤ 1073741824) where
    pub r_part : Made (bits f.reach *ℤ to_z w64 n) (f.reach *ℤ pos n) 18014398509481984
    r_part = by_count n 18014398509481984 (reach_made f s) (omega arith) (mul-le-mul (reach_made f s).within small) tt

    pub parts : Made (bits (bits (bits v.a *ℤ bits q) +ℤ bits (bits v.b *ℤ bits p)) +ℤ bits (bits f.reach *ℤ to_z w64 n)) (v.a *ℤ absℤ v.q +ℤ v.b *ℤ absℤ v.p +ℤ f.reach *ℤ pos n) 306244774661193728
    parts = plus two_parts r_part tt

    pub room : Made (bits (bits (bits (bits v.a *ℤ bits q) +ℤ bits (bits v.b *ℤ bits p)) +ℤ bits (bits f.reach *ℤ to_z w64 n)) -ℤ pos 1) (v.a *ℤ absℤ v.q +ℤ v.b *ℤ absℤ v.p +ℤ f.reach *ℤ pos n -ℤ pos 1) 306244774661193729
    room = minus parts (lit 1 tt) tt

    length_is : n ≡ root (nat_abs (bits p) * nat_abs (bits p) + nat_abs (bits q) * nat_abs (bits q)) → n ≡ root (nat_abs (squares v.p v.q))
    length_is e = (rw (back p_is, back q_is, abs_size v.p, abs_size v.q) at e) ∙ ap root (nat_abs_squares v.p v.q)

    pub room_for : n ≡ root (nat_abs (bits p) * nat_abs (bits p) + nat_abs (bits q) * nat_abs (bits q)) → RoomFor f v (bits (bits (bits (bits (bits v.a *ℤ bits q) +ℤ bits (bits v.b *ℤ bits p)) +ℤ bits (bits f.reach *ℤ to_z w64 n)) -ℤ pos 1))
    room_for e = rw (back room) (record {
      size = omega (arith, room.within);
      is = λ h k. ap (λ n. v.a *ℤ absℤ v.q +ℤ v.b *ℤ absℤ v.p +ℤ f.reach *ℤ pos n -ℤ pos 1) (length_is e);
    })

-- ---- what the columns share, and the step from one to the next
module _ (f : Frame) (s : FrameSized f) (v : View) (t : ViewSized v) {w z : ℤ} (m : Made w z 1073741824) {l q : ℤ} (el : l ≡ along_q (bits v.p) (bits v.q)) (eq : q ≡ pos (nat_abs (bits v.q))) where
  axis : Made q (absℤ v.q) 536870912
  axis = abs_of (q_made v t) eq tt

  pub first : Made (bits w *ℤ bits l) (z *ℤ along_q v.p v.q) 576460752303423488
  first = times m (along_of (p_made v t) (q_made v t) el) tt

  pub second : Made (bits v.x *ℤ bits q) (v.x *ℤ absℤ v.q) 310748374288564224
  second = times (vx_made v t) axis tt

  pub place : Made (bits (bits w *ℤ bits l) +ℤ bits (bits v.x *ℤ bits q)) (shared z v.x v.p v.q) 887209126591987712
  place = plus first second tt

  pub step : Made (bits (pos 2 *ℤ bits f.q) *ℤ bits q) (pos 2 *ℤ f.q *ℤ absℤ v.q) 9007199254740992
  step = times (side_made f s) axis tt

  pub step_nonneg : T (non_neg (pos 2 *ℤ f.q *ℤ absℤ v.q))
  step_nonneg = nonneg_times (pos 2 *ℤ f.q) (absℤ v.q) (nonneg_times (pos 2) f.q tt s.q_nonneg) (abs_is_nonneg v.q)

  pub step_above : is_zero v.q ≡ false → 0 < nat_abs (pos 2 *ℤ f.q *ℤ absℤ v.q)
  step_above e =
      let h : 0 < nat_abs (pos 2 *ℤ f.q) = omega (arith, nat_abs_mul (pos 2) f.q, s.q_above) in
      omega (arith, nat_abs_mul (pos 2 *ℤ f.q) (absℤ v.q), mul-le-mul h (abs_above v.q e))

  pub near_is : {b : Bool} (i : ℕ) (r : ℤ) → b ≡ le_z (absℤ (pos (nat_abs (bits (bits (pos 2 *ℤ bits f.q) *ℤ bits q)) * i) -ℤ bits (bits (bits w *ℤ bits l) +ℤ bits (bits v.x *ℤ bits q)))) r → b ≡ le_z (absℤ (pos 2 *ℤ f.q *ℤ absℤ v.q *ℤ pos i -ℤ shared z v.x v.p v.q)) r
  near_is i r h =
      (rw (back place, back step) at h)
      ∙ ap (λ d. le_z (absℤ (d *ℤ pos i -ℤ shared z v.x v.p v.q)) r) (pos-nat_abs (pos 2 *ℤ f.q *ℤ absℤ v.q) step_nonneg)
