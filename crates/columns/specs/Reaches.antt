-- Of a strip as a frame sees it: its sizes, and how far along one axis the cells can be that it is not away from, or inside of. Assumes nothing.
use Rattle.std.specs.Prelude.{◌≡◌, refl, not, ℕ, ◌≤◌, T, ℤ, pos, neg_ℤ, nat_abs, ◌+ℤ◌, ◌-ℤ◌}
use Rattle.std.proofs.Common.{sym, subst, arith}
use Rattle.std.specs.Int.Signed.{le_z, le_z_yes, yes_non_neg}
use Rattle.integers.specs.RingSolver.{name₃, reify}
use Rattle.integers.specs.Order.{◌≼◌, ◌⊞◌}
use Rattle.integers.specs.Omega.{zarith}
use Rattle.integers.specs.Inequalities.{from, ◌&◌}
use Rattle.integers.specs.Absolute.{absℤ, abs_size, abs_nonneg}
use Rattle.integers.specs.Signed.{nat_abs_add, nat_abs_neg, nonneg}
use Rattle.model.specs.Strips.{Strip}
use Rattle.ranges.specs.Sizes.{Sized}
use Rattle.row_laws.specs.Columns.{off}
use Rattle.row_laws.specs.Rows as rows
use Rattle.columns.specs.declared.Frame.{Frame}
use Rattle.columns.specs.declared.View.{View}
use Rattle.columns.specs.Views.{view_of, away_in, inside_in}
use Rattle.columns.specs.Limits.{FrameSized, ViewSized}

-- ---- sizes
pub view_sized : (f : Frame) (S : Strip) → FrameSized f → Sized S → ViewSized (view_of f S)
view_sized f S h k = record {
  x_size = omega (arith, nat_abs_add S.x.centre (neg_ℤ (f.x +ℤ f.q)), nat_abs_neg (f.x +ℤ f.q), nat_abs_add f.x f.q, k.x_sized.centre_size, h.x_size, h.q_size);
  y_size = omega (arith, nat_abs_add S.y.centre (neg_ℤ (f.y +ℤ f.q)), nat_abs_neg (f.y +ℤ f.q), nat_abs_add f.y f.q, k.y_sized.centre_size, h.y_size, h.q_size);
  p_size = k.x_sized.axis_size;
  q_size = k.y_sized.axis_size;
  a_size = omega (arith, nat_abs_add S.x.box f.q, k.x_sized.box_size, h.q_size);
  b_size = omega (arith, nat_abs_add S.y.box f.q, k.y_sized.box_size, h.q_size);
  a_nonneg = yes_non_neg (nonneg S.x.box k.x_sized.box_above ⊞ nonneg f.q h.q_nonneg);
  b_nonneg = yes_non_neg (nonneg S.y.box k.y_sized.box_above ⊞ nonneg f.q h.q_nonneg);
  ex_is = refl;
  ey_is = refl;
}

-- the upright box's half sides: 2^29 + 2^28
half_size : (e p a : ℤ) → e ≡ absℤ p +ℤ a → nat_abs p ≤ 536870912 → nat_abs a ≤ 268435456 → nat_abs e ≤ 805306368
half_size e p a h k l = subst (λ z. nat_abs z ≤ 805306368) (sym h) (omega (arith, nat_abs_add (absℤ p) a, abs_size p, k, l))

pub ex_size : (v : View) → ViewSized v → nat_abs v.ex ≤ 805306368
ex_size v k = half_size v.ex v.p v.a k.ex_is k.p_size k.a_size

pub ey_size : (v : View) → ViewSized v → nat_abs v.ey ≤ 805306368
ey_size v k = half_size v.ey v.q v.b k.ey_is k.q_size k.b_size

module _ (f : Frame) (v : View) (h : FrameSized f) (k : ViewSized v) (i j : ℕ) where
  abbrev x : ℤ
  x = off f.q v.x (pos i)

  abbrev y : ℤ
  y = off f.q v.y (pos j)

  reach : pos 0 ≼ f.reach
  reach = nonneg f.reach h.reach_sized.r_nonneg

  -- ---- not away
  module _ (t : T (not (away_in f v i j))) where
    plain : T (not (away_in f (record { x = v.x; y = v.y; p = v.p; q = v.q; a = v.a; b = v.b; ex = absℤ v.p +ℤ v.a; ey = absℤ v.q +ℤ v.b }) i j))
    plain = rw (k.ex_is, k.ey_is) at t

    pub kept_x : T (le_z (absℤ x) (v.ex +ℤ f.reach))
    kept_x = rw k.ex_is (rows.reached_x x y v.p v.q v.a v.b f.reach reach plain)

    pub kept_y : T (le_z (absℤ y) (v.ey +ℤ f.reach))
    kept_y = rw k.ey_is (rows.reached_y x y v.p v.q v.a v.b f.reach reach plain)

  -- ---- inside
  module _ (t : T (inside_in f v i j)) where
    pub deep_x : T (le_z (absℤ x) (f.reach -ℤ v.ex))
    deep_x = rows.deep_x x y v.ex v.ey f.reach reach t

    pub deep_y : T (le_z (absℤ y) (f.reach -ℤ v.ey))
    deep_y = rows.deep_y x y v.ex v.ey f.reach reach t

    -- which is nearer than where it is not away
    pub deep_kept_y : T (le_z (absℤ y) (v.ey +ℤ f.reach))
    deep_kept_y = (nearer (absℤ y) v.ey f.reach (subst (λ z. pos 0 ≼ z) (sym k.ey_is) (abs_nonneg v.q ⊞ nonneg v.b k.b_nonneg)) (le_z_yes deep_y)).le
      where
        nearer : (w e r : ℤ) → pos 0 ≼ e → w ≼ r -ℤ e → w ≼ e +ℤ r
        nearer w e r a b = from (a & b) (name₃ w e r λ σ p₁ p₂ p₃. simp (p₁, p₂, p₃, reify, σ) (omega zarith))
