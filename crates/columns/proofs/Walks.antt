-- The columns that the walks from both ends find. Assumes nothing.
use Rattle.std.specs.Prelude.{◌≡◌, Bool, true, false, ◌&&◌, ℕ, ◌-◌, ◌≤◌, ◌<◌, T, ℤ, pos}
use Rattle.std.proofs.Common.{sym, subst}
use Rattle.spans.specs.declared.Span.{Span}
use Rattle.spans.specs.Among.{among}
use Rattle.integers.specs.Order.{◌≼◌, ◌⊞◌}
use Rattle.integers.specs.Signed.{nonneg}
use Rattle.integers.specs.Absolute.{abs_nonneg}
use Rattle.row_laws.specs.Columns.{SideBySide, near_columns, inside_columns, walked_is}
use Rattle.columns.specs.declared.Frame.{Frame}
use Rattle.columns.specs.declared.View.{View}
use Rattle.columns.specs.Views.{near_at, inside_at}
use Rattle.columns.specs.Limits.{FrameSized, ViewSized}

-- ---- c was walked in from both ends to where P holds
module _ (P : ℕ → Bool) (sides : SideBySide P) (c r : Span)
    (inner : (c.lo ≤ r.lo) × (r.hi ≤ c.hi)) (left : (i : ℕ) → c.lo ≤ i → i < r.lo → P i ≡ false)
    (right : (i : ℕ) → r.lo ≤ i → r.hi ≤ i → i < c.hi → P i ≡ false) (ends : r.lo < r.hi → (P r.lo ≡ true) × (P (r.hi - 1) ≡ true)) where
  pub trimmed_is : (i : ℕ) → among r i ≡ (among c i && P i)
  trimmed_is = walked_is P sides c.lo c.hi r.lo r.hi (record {
    begins = inner.0;
    ends = inner.1;
    left = λ i h k t. subst T (left i h k) t;
    right = λ i h k l t. subst T (right i h k l) t;
    first = λ h. subst T (sym (ends h).0) tt;
    last = λ h. subst T (sym (ends h).1) tt;
  })

-- ---- the tests of a row hold side by side
module _ (f : Frame) (s : FrameSized f) (v : View) (t : ViewSized v) (w : ℤ) where
  ex_nonneg : pos 0 ≼ v.ex
  ex_nonneg = subst (λ z. pos 0 ≼ z) (sym t.ex_is) (abs_nonneg v.p ⊞ nonneg v.a t.a_nonneg)

  ey_nonneg : pos 0 ≼ v.ey
  ey_nonneg = subst (λ z. pos 0 ≼ z) (sym t.ey_is) (abs_nonneg v.q ⊞ nonneg v.b t.b_nonneg)

  pub near_sides : SideBySide (λ i. near_at f v w i)
  near_sides = near_columns f.q v.x w v.ex v.ey f.reach (nonneg f.q s.q_nonneg)

  pub inside_sides : SideBySide (λ i. inside_at f v w i)
  inside_sides = inside_columns f.q v.x w v.ex v.ey f.reach (nonneg f.q s.q_nonneg) ex_nonneg ey_nonneg
