-- Where r² ≤ 2 s² no node is inside. Assumes nothing.
use mathlib.Core.Path.{◌≡◌, refl, sym, subst}
use mathlib.Core.Bool.{Bool, true, false}
use Prim.Native.Nat.{◌≤◌}
use native.Mathlib.Omega.{arith}
use lib.Dec.{T}
use lib.IntN.{ℤ, pos, ◌+ℤ◌, ◌-ℤ◌, ◌*ℤ◌}
use lib.Signed.{le_z, lt_z_yes, le_z_yes, non_neg, clash_ℤ}
use Rattle.integers.specs.RingSolver.{name₄, reify}
use Rattle.integers.specs.Order.{◌≼◌, ◌⊞◌, ◌⊠◌}
use Rattle.integers.specs.Omega.{zarith}
use Rattle.integers.specs.Inequalities.{from, ◌&◌}
use Rattle.integers.specs.Absolute.{absℤ, abs_nonneg}
use Rattle.integers.specs.Signed.{nonneg}
use Rattle.model.specs.Strips.{Side}
use Rattle.model.specs.Explore.{farthest, is_inside, by_tests, judged}
use Rattle.strip_tests.specs.Answers.{code_few}
use Rattle.strip_tests.specs.PlainTests.{code}
use Rattle.ranges.specs.Sizes.{SideSized}
use Rattle.search.specs.Probes.{cell_at, Enough}

-- the farthest is at least the half side
far : (w p b s : ℤ) → pos 0 ≼ w → pos 0 ≼ p → pos 0 ≼ b → pos 0 ≼ s → s *ℤ s ≼ (w +ℤ p +ℤ (b +ℤ s)) *ℤ (w +ℤ p +ℤ (b +ℤ s))
far w p b s hw hp hb hs = from ((hw ⊞ hp ⊞ hb) ⊠ (hw ⊞ hp ⊞ hb) & (hw ⊞ hp ⊞ hb) ⊠ hs) (name₄ w p b s λ σ x y z u. simp (x, y, z, u, reify, σ) (omega zarith))

far_side : (c s : ℤ) (S : Side) → pos 0 ≼ s → SideSized S → s *ℤ s ≼ farthest c s S *ℤ farthest c s S
far_side c s S hs f = far (absℤ (c -ℤ S.centre)) (absℤ S.axis) S.box s (abs_nonneg (c -ℤ S.centre)) (abs_nonneg S.axis) (nonneg S.box f.box_above) hs

sum : (r s a b : ℤ) → r ≼ pos 2 *ℤ s *ℤ s → s *ℤ s ≼ a → s *ℤ s ≼ b → r ≼ a +ℤ b
sum r s a b = name₄ r s a b λ σ x y z u. simp (x, y, z, u, reify, σ) (omega zarith)

not_inside : (i w : Bool) → (i ≡ true → ⊥) → code (by_tests i w) ≤ 1
not_inside true w f = absurd (f refl)
not_inside false true f = omega arith
not_inside false false f = omega arith

pub too_wide : (s r : ℤ) → T (non_neg s) → le_z (r *ℤ r) (pos 2 *ℤ s *ℤ s) ≡ true → (x y : ℤ) → Enough x y s r 1
unfolding Enough is_inside
too_wide s r hs h x y S f =
    not_inside (is_inside r (cell_at x y s) S) _
    (λ e. clash_ℤ (lt_z_yes (subst T (sym e) tt))
    (sum (r *ℤ r) s (farthest x s S.x *ℤ farthest x s S.x) (farthest y s S.y *ℤ farthest y s S.y) (le_z_yes (subst T (sym h) tt))
    (far_side x s S.x (nonneg s hs) f.x_sized) (far_side y s S.y (nonneg s hs) f.y_sized)))

pub any : (x y s r : ℤ) → Enough x y s r 2
unfolding Enough
any x y s r S f = code_few (judged r (cell_at x y s) S)
